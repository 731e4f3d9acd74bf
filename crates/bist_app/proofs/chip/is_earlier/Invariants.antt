use Rattle.bist_app.specs.Chip.{IsEarlier}
use Rattle.bist_app.proofs.chip.is_earlier.Given as goal

abbrev pub invariant-loop-before : goal.invariant-loop-before
invariant-loop-before l = IsEarlier l.memories l.before l.name → ⊥
