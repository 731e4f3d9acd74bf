-- Trusted. When a march detects a primitive: at one size, and at every size.
use Rattle.std.specs.Prelude.{◌≡◌, ◌≤◌, ℕ, Bool, IsTrue, List, length}
use Rattle.fault_core.specs.declared.cells.Places.{Places}
use Rattle.fault_core.specs.Primitive.{Primitive}
use Rattle.fault_core.specs.Cells.{FitsPlace, close_of}
use Rattle.march_core.specs.March.{MarchElement}
use Rattle.march_core.specs.Visits.{Direction, is_direction, visits}
use Rattle.array_sim.specs.Differing.{left_behind, after_step, SomeDiffers}

-- in these directions on this content, which is closed first, some read answers another bit than the march expects
abbrev pub IsCaught : List MarchElement → List Direction → Primitive → Places → List Bool → Type 0
IsCaught march directions p at content = SomeDiffers p at (close_of p at content) (visits march directions (length content))

-- what they leave, whatever the reads answer
abbrev pub cells_after : List MarchElement → List Direction → Primitive → Places → List Bool → List Bool
cells_after march directions p at content = left_behind (after_step p at) (close_of p at content) (visits march directions (length content))

-- in arrays of this size the primitive is caught in every place, from every content, in every choice of directions
abbrev pub DetectsAt : ℕ → List MarchElement → Primitive → Type 0
DetectsAt size march p =
    (directions : List Direction) (at : Places) (content : List Bool)
    → IsTrue (is_direction march directions) → FitsPlace p at size → length content ≡ size
    → IsCaught march directions p at content

-- it is caught so in arrays of every size from two cells on
abbrev pub Detects : List MarchElement → Primitive → Type 0
Detects march p = (size : ℕ) → 2 ≤ size → DetectsAt size march p
