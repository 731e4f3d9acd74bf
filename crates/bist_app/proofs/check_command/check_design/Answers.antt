use Rattle.bist_app.proofs.Checked.{planned}
use Rattle.bist_app.proofs.check_command.check_design.Goals as goal

pub returns-in-Ok-clause-answer : goal.returns-in-Ok-clause-answer
returns-in-Ok-clause-answer c =
    planned c.args.design.now.tree c.args.march.now c.args.memory.now c.in-Ok.answer c.plan_answer.result c.in-Ok.ensures.accepted c.in-Ok.ensures.answer
    c.plan_answer.ensures.done c.plan_answer.ensures.wants
