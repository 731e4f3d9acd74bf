use Rattle.bist_app.proofs.Causes.{wider_cause}
use Rattle.bist_app.proofs.benchfile_command.decide_benchfile.Goals as goal

pub returns-clause-cause : goal.returns-clause-cause
returns-clause-cause g c =
    wider_cause _ _ _ _ _ c.decide_design-plan.result c.read_design_input.ensures.kept.files c.read_design_input.ensures.kept.reads c.decide_design-plan.ensures.cause
