-- Public. That linked primitives do, at each act and at each pause, what one of the two does alone.
use Rattle.std.specs.Prelude.{◌≡◌, ◌&&◌, ℕ, Bool, true, false, List}
use Rattle.fault_core.specs.declared.primitive.Act.{Act}
use Rattle.fault_core.specs.declared.cells.Places.{Places}
use Rattle.fault_core.specs.Primitive.{Primitive, is_retention}
use Rattle.fault_core.specs.Cells.{states_hold, acts, step_cells, step_answer, pause_cells}
use Rattle.linked_faults.specs.declared.link.Link.{Link}
use Rattle.linked_faults.specs.declared.link.LinkPlaces.{LinkPlaces}
use Rattle.linked_faults.specs.Linking.{first_places, second_places, linked_cells, linked_answer, linked_pause}

-- the cells after an act, and its answer, are those that the primitive alone makes
abbrev pub DoesAs : Primitive → Places → Link → LinkPlaces → List Bool → ℕ → Act → Type 0
DoesAs p places link at cells x act =
    (linked_cells link at cells x act ≡ step_cells p places cells x act) × (linked_answer link at cells x act ≡ step_answer p places cells x act)

-- the cells after a pause are
abbrev pub PausesAs : Primitive → Places → Link → LinkPlaces → List Bool → Type 0
PausesAs p places link at cells = linked_pause link at cells ≡ pause_cells p places cells

-- whether a pause is the primitive's own
abbrev pub loses : Primitive → Places → List Bool → Bool
loses p places cells = is_retention p && states_hold p places cells

-- as the first, where the act or the pause is its own, and else as the second
pub record AreAsOne (link : Link) : Type 0 where
  pub first : (at : LinkPlaces) (cells : List Bool) (x : ℕ) (act : Act) → acts link.first (first_places link at) cells x act ≡ true
      → DoesAs link.first (first_places link at) link at cells x act
  pub second : (at : LinkPlaces) (cells : List Bool) (x : ℕ) (act : Act) → acts link.first (first_places link at) cells x act ≡ false
      → DoesAs link.second (second_places link at) link at cells x act
  pub first_pause : (at : LinkPlaces) (cells : List Bool) → loses link.first (first_places link at) cells ≡ true
      → PausesAs link.first (first_places link at) link at cells
  pub second_pause : (at : LinkPlaces) (cells : List Bool) → loses link.first (first_places link at) cells ≡ false
      → PausesAs link.second (second_places link at) link at cells
