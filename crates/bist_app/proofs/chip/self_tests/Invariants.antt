use Rattle.bist_app.specs.inner.ChipParts.{PutSelfTests}
use Rattle.bist_app.proofs.chip.self_tests.Given as goal

abbrev pub invariant-loop-unit : goal.invariant-loop-unit
invariant-loop-unit l = PutSelfTests l.table l.unit l.out.items
