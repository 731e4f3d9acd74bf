use Rattle.std.proofs.Common.{◌∙◌}
use Rattle.sequence_faults.specs.Primitive.{parts_of, good_after}
use Rattle.sequence_faults.proofs.Tests.{wrong_first, wrong_next}
use Rattle.sequence_faults.proofs.primitive.goes_wrong.Goals as goal

pub returns-then-after-good : goal.returns-then-after-good
returns-then-after-good c =
    wrong_first c.args.after (good_after (parts_of c.args.states.now c.args.actor c.args.acts.now c.args.after c.args.answer)) c.good_after-good.result _
    (c.good_after-good.ensures c.args.after c.args.answer) c.if-after-good.true

pub returns-else-after-good : goal.returns-else-after-good
returns-else-after-good c =
    c.answers.ensures
    ∙ wrong_next c.args.after (good_after (parts_of c.args.states.now c.args.actor c.args.acts.now c.args.after c.args.answer)) c.good_after-good.result c.args.answer
    (c.good_after-good.ensures c.args.after c.args.answer) c.if-after-good.false
