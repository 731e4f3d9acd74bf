-- Public. What a verdict says.
use Rattle.std.specs.Prelude.{◌≡◌, ℕ, List, [], ◌∷◌}
use Rattle.fault_core.specs.Primitive.{Primitive}
use Rattle.march_core.specs.March.{MarchElement}
use Rattle.array_sim.specs.Detection.{Detects, DetectsAt}
use Rattle.pair_tracker.specs.Tables.{NothingPasses}
use Rattle.escape_array.specs.Escapes.{IsLeastEscape}
use Rattle.coverage.specs.declared.verdict.Verdict.{Verdict}
use Rattle.coverage.specs.declared.verdict.Verdict.TheVariants.{Covered, Escape}

-- covered exactly where the primitive is detected at every size; else the least escape
abbrev pub IsVerdict : List MarchElement → Primitive → Verdict → Type 0
IsVerdict march p Covered = Detects march p
IsVerdict march p (Escape e) = (e.prim ≡ p) × IsLeastEscape march e × (Detects march p → ⊥)

-- at each single size the verdict is the same
abbrev pub IsVerdictAt : ℕ → List MarchElement → Primitive → Verdict → Type 0
IsVerdictAt size march p Covered = DetectsAt size march p
IsVerdictAt size march p (Escape e) = DetectsAt size march p → ⊥

-- it is the verdict of the march's tables, one an element, one after another: covered exactly where they lead nowhere, from any two cells
abbrev pub IsVerdictOfTables : List MarchElement → Primitive → Verdict → Type 0
IsVerdictOfTables march p Covered = NothingPasses march p
IsVerdictOfTables march p (Escape e) = NothingPasses march p → ⊥

-- one verdict a primitive, in their order
abbrev pub AreVerdicts : List MarchElement → List Primitive → List Verdict → Type 0
AreVerdicts march [] [] = Unit {0}
AreVerdicts march [] (v ∷ vs) = ⊥
AreVerdicts march (p ∷ ps) [] = ⊥
AreVerdicts march (p ∷ ps) (v ∷ vs) = IsVerdict march p v × AreVerdicts march ps vs
