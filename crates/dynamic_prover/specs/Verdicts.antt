-- Public. What a verdict on a dynamic primitive says.
use Rattle.std.specs.Prelude.{◌≡◌, ℕ, List}
use Rattle.march_core.specs.March.{MarchElement}
use Rattle.dynamic_core.specs.Primitive.{DynamicPrimitive}
use Rattle.dynamic_core.specs.Detecting.{DetectsDyn, DetectsDynAt}
use Rattle.dynamic_prover.specs.declared.escape.DynVerdict.{DynVerdict}
use Rattle.dynamic_prover.specs.declared.escape.DynVerdict.TheVariants.{Covered, Escape}
use Rattle.dynamic_prover.specs.Escapes.{LeastDyn}

-- covered exactly where the primitive is detected at every size; else the least escape
abbrev pub IsDynVerdict : List MarchElement → DynamicPrimitive → DynVerdict → Type 0
IsDynVerdict march p Covered = DetectsDyn march p
IsDynVerdict march p (Escape e) = (e.prim ≡ p) × LeastDyn march e × (DetectsDyn march p → ⊥)

-- at this single size the verdict is the same
abbrev pub IsDynVerdictAt : ℕ → List MarchElement → DynamicPrimitive → DynVerdict → Type 0
IsDynVerdictAt size march p Covered = DetectsDynAt size march p
IsDynVerdictAt size march p (Escape e) = DetectsDynAt size march p → ⊥
