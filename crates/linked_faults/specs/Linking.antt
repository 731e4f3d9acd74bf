-- Trusted. Linked faults: two primitives with the same victim, of which the second can hide what the first did.
use Rattle.std.specs.Prelude.{◌≡◌, ◌≢◌, ◌<◌, ◌≤◌, ◌↔◌, ◌&&◌, ◌⊎◌, ℕ, Bool, true, if◌then◌else◌, Option, Some, None, List, slice_set}
use Rattle.fault_core.specs.declared.primitive.Act.{Act}
use Rattle.fault_core.specs.declared.primitive.Act.TheVariants.{Write}
use Rattle.fault_core.specs.declared.primitive.Sense.{Sense}
use Rattle.fault_core.specs.declared.cells.Places.{Places}
use Rattle.fault_core.specs.Primitive.{IsPrimitive, has_aggressor, is_retention}
use Rattle.fault_core.specs.Cells.{FitsPlace, has_act, states_hold, acts, plain_cells, plain_answer, answer_or}
use Rattle.linked_faults.specs.declared.link.Link.{Link}
use Rattle.linked_faults.specs.declared.link.LinkPlaces.{LinkPlaces}

-- the victim's bit behind a primitive's act, were it good
abbrev pub good_after : Option Act → Bool → Bool
good_after (Some (Write bit)) state = bit
good_after act state = state

-- the second finds the wrong bit that the first left, and leaves the other; no read among them tells
pub record IsLinked (link : Link) : Type 0 where
  pub first : IsPrimitive link.first
  pub second : IsPrimitive link.second
  pub first_acts : has_act link.first ≡ true
  pub second_acts : has_act link.second ≡ true
  pub wrong : link.first.after ≢ good_after link.first.vic.act link.first.vic.state
  pub untold : (link.first.answer ≡ None) ⊎ (link.first.answer ≡ Some link.first.vic.state)
  pub finds : link.second.vic.state ≡ link.first.after
  pub hides : link.second.after ≢ link.first.after
  pub quiet : (link.second.answer ≡ None) ⊎ (link.second.answer ≡ Some link.second.after)
  pub shared : link.is_shared ≡ true → (has_aggressor link.first ≡ true) × (has_aggressor link.second ≡ true)

-- three different cells of an array of this size
pub record FitsLinkPlaces (at : LinkPlaces) (size : ℕ) : Type 0 where
  pub a_within : at.a < size
  pub b_within : at.b < size
  pub v_within : at.v < size
  pub a_v : at.a ≢ at.v
  pub b_v : at.b ≢ at.v
  pub a_b : at.a ≢ at.b

-- an aggressor's cell, where there is an aggressor
abbrev pub beside : Option Sense → ℕ → Option ℕ
beside None x = None
beside (Some sense) x = Some x

abbrev pub first_places : Link → LinkPlaces → Places
first_places link at = record { agg = beside link.first.agg at.a; vic = at.v }

-- the second aggressor's cell: the first's, where it is shared
abbrev pub second_place : Link → LinkPlaces → ℕ
second_place link at = if link.is_shared then at.a else at.b

abbrev pub second_places : Link → LinkPlaces → Places
second_places link at = record { agg = beside link.second.agg (second_place link at); vic = at.v }

-- one act on one cell: its plain part, then the effect of the primitive whose act it is
unfoldable pub linked_cells : Link → LinkPlaces → List Bool → ℕ → Act → List Bool
linked_cells link at cells x act =
    if acts link.first (first_places link at) cells x act then slice_set (plain_cells cells x act) at.v link.first.after
    else if acts link.second (second_places link at) cells x act then slice_set (plain_cells cells x act) at.v link.second.after
    else plain_cells cells x act

-- what the act answers
unfoldable pub linked_answer : Link → LinkPlaces → List Bool → ℕ → Act → Option Bool
linked_answer link at cells x act =
    if acts link.first (first_places link at) cells x act then answer_or link.first.answer (plain_answer cells x act)
    else if acts link.second (second_places link at) cells x act then answer_or link.second.answer (plain_answer cells x act)
    else plain_answer cells x act

-- a pause: the effect of the primitive that loses its state over it
unfoldable pub linked_pause : Link → LinkPlaces → List Bool → List Bool
linked_pause link at cells =
    if is_retention link.first && states_hold link.first (first_places link at) cells then slice_set cells at.v link.first.after
    else if is_retention link.second && states_hold link.second (second_places link at) cells then slice_set cells at.v link.second.after
    else cells

-- at most one of the two has an act
abbrev pub NeverBoth : Link → Type 0
NeverBoth link =
    (at : LinkPlaces) (cells : List Bool) (x : ℕ) (act : Act) → at.a ≢ at.v → at.b ≢ at.v
    → acts link.first (first_places link at) cells x act ≡ true → acts link.second (second_places link at) cells x act ≡ true → ⊥

-- the places of the two: the victim is the same, and where both have an aggressor's cell, it is the same exactly where it is shared
pub record FitsLink (link : Link) (first second : Places) (size : ℕ) : Type 0 where
  pub first_fits : FitsPlace link.first first size
  pub second_fits : FitsPlace link.second second size
  pub victim : first.vic ≡ second.vic
  pub aggressors : (x y : ℕ) → first.agg ≡ Some x → second.agg ≡ Some y → (x ≡ y) ↔ (link.is_shared ≡ true)

-- three cells where the two have these places
pub record AreSpotsOf (link : Link) (first second : Places) (size : ℕ) (at : LinkPlaces) : Type 0 where
  pub fits : FitsLinkPlaces at size
  pub first_is : first_places link at ≡ first
  pub second_is : second_places link at ≡ second

-- in an array of three cells or more all places of the two are those of some three cells
abbrev pub HaveSpots : Link → Type 0
HaveSpots link =
    (size : ℕ) (first second : Places) → 3 ≤ size → FitsLink link first second size → (at : LinkPlaces) × AreSpotsOf link first second size at
