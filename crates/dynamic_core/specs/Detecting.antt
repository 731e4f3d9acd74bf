-- Trusted. When a march detects a dynamic primitive: at one size, and at every size.
use Rattle.std.specs.Prelude.{◌≡◌, ◌≢◌, ◌<◌, ◌≤◌, ℕ, Bool, false, IsTrue, Option, Some, None, List, length}
use Rattle.fault_core.specs.declared.cells.Places.{Places}
use Rattle.march_core.specs.March.{MarchElement}
use Rattle.march_core.specs.Visits.{Direction, is_direction, visits}
use Rattle.dynamic_core.specs.Primitive.{DynamicSense, DynamicPrimitive}
use Rattle.array_sim.specs.Differing.{left_behind}
use Rattle.dynamic_core.specs.Dynamic.{Held, held_as}
use Rattle.dynamic_core.specs.Differing.{held_after, SomeDynDiffers}

-- the aggressor's place: there exactly for a primitive with an aggressor, within the array, and not the victim's
abbrev pub FitsDynAgg : Option DynamicSense → Option ℕ → ℕ → ℕ → Type 0
FitsDynAgg (Some sense) (Some a) victim size = (a < size) × (a ≢ victim)
FitsDynAgg None None victim size = Unit {0}
FitsDynAgg agg place victim size = ⊥

-- the places of an instance in an array of this size
pub record FitsDyn (p : DynamicPrimitive) (at : Places) (size : ℕ) : Type 0 where
  pub victim : at.vic < size
  pub aggressor : FitsDynAgg p.agg at.agg at.vic size

-- in these directions on this content some read answers another bit than the march expects
abbrev pub IsCaughtDyn : List MarchElement → List Direction → DynamicPrimitive → Places → List Bool → Type 0
IsCaughtDyn march directions p at content = SomeDynDiffers p at (held_as content false) (visits march directions (length content))

-- what they leave, whatever the reads answer
abbrev pub cells_after_dyn : List MarchElement → List Direction → DynamicPrimitive → Places → List Bool → List Bool
cells_after_dyn march directions p at content =
    let left : Held = left_behind (held_after p at) (held_as content false) (visits march directions (length content)) in left.cells

-- in arrays of this size the primitive is caught in every place, from every content, in every choice of directions
abbrev pub DetectsDynAt : ℕ → List MarchElement → DynamicPrimitive → Type 0
DetectsDynAt size march p =
    (directions : List Direction) (at : Places) (content : List Bool)
    → IsTrue (is_direction march directions) → FitsDyn p at size → length content ≡ size
    → IsCaughtDyn march directions p at content

-- it is caught so in arrays of every size from two cells on
abbrev pub DetectsDyn : List MarchElement → DynamicPrimitive → Type 0
DetectsDyn march p = (size : ℕ) → 2 ≤ size → DetectsDynAt size march p
