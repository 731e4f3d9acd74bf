use Rattle.bist_app.proofs.TakenNames.{found_earlier, not_earlier}
use Rattle.bist_app.proofs.chip.is_earlier.Goals as goal

pub returns-then-eq : goal.returns-then-eq
returns-then-eq c =
    found_earlier c.args.memories.now c.args.unit c.loop-before.before c.index-memories-before.result c.name.result.now c.args.name.now c.loop-before-test.true c.requires
    c.index-memories-before.is c.name.ensures c.if-eq.ensures

pub loop-before-preserved : goal.loop-before-preserved
loop-before-preserved c =
    not_earlier c.args.memories.now c.args.unit c.loop-before.before c.index-memories-before.result c.name.result.now c.args.name.now c.loop-before-test.true c.requires
    c.index-memories-before.is c.name.ensures c.if-eq.ensures c.loop-before.invariant
