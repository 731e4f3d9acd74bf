use Rattle.bist_app.proofs.Common.{Ok, Err, subst, plain}
use Rattle.bist_app.specs.Chip.{TestsUnits}
use Rattle.bist_app.proofs.Refusing.{passed_on}
use Rattle.bist_app.proofs.ChipChecks.{named_plan}
use Rattle.bist_app.proofs.chip.decide_chip.Goals as goal

pub returns-in_err-chip-clause-answer : goal.returns-in_err-chip-clause-answer
returns-in_err-chip-clause-answer g c = (Err c.in_err-chip.field-0.0, c.in_err-chip.ensures.answer, passed_on _ _ c.from_residual.ensures)

pub returns-clause-answer : goal.returns-clause-answer
returns-clause-answer g c = (
  Ok c.in_ok-chip.chip,
  c.in_ok-chip.ensures.answer,
  subst (λ f. TestsUnits f c.in_ok-chip.chip (plain c.test_chip.result)) c.in_ok-chip.ensures.kept.files c.test_chip.ensures.answer,
)

pub returns-clause-outputs : goal.returns-clause-outputs
returns-clause-outputs g c = named_plan (g.H.Host.state c.args.host.now).files c.args.words.now c.test_chip.result c.requires (returns-clause-answer g c)
