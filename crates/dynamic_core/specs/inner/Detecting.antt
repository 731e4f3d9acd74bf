-- Inner. For proofs and private contracts alone, beside Detecting: when a march detects a dynamic primitive: at one size, and at every size.
use Rattle.std.specs.Prelude.{Bool, false, List, length}
use Rattle.fault_core.specs.declared.cells.Places.{Places}
use Rattle.march_core.specs.March.{MarchElement}
use Rattle.march_core.specs.Visits.{Direction, visits}
use Rattle.dynamic_core.specs.Primitive.{DynamicPrimitive}
use Rattle.dynamic_core.specs.inner.Dynamic.{Ending, dyn_run}
use Rattle.dynamic_core.specs.Dynamic.{held_as}

-- a march in these directions on this content; nothing is armed at the start
abbrev pub ending_of : List MarchElement → List Direction → DynamicPrimitive → Places → List Bool → Ending
ending_of march directions p at content = dyn_run p at (held_as content false) (visits march directions (length content))
