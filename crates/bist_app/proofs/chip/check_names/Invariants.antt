use Rattle.bist_app.proofs.Common.{ℕ, ◌<◌}
use Rattle.bist_app.specs.Chip.{HasTakenName}
use Rattle.bist_app.proofs.chip.check_names.Given as goal

abbrev pub invariant-loop-unit : goal.invariant-loop-unit
invariant-loop-unit l = (before : ℕ) → before < l.unit → HasTakenName l.chip l.memories before → ⊥
