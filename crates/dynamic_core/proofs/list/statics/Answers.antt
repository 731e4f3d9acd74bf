use Rattle.dynamic_core.proofs.StaticLists.{all_static}
use Rattle.dynamic_core.proofs.list.statics.Goals as goal

pub returns-clause-ok : goal.returns-clause-ok
returns-clause-ok c = all_static c.args.items.now c.loop-item.item-index c.loop-item.prims.items c.loop-item-test.false c.loop-item.invariant
