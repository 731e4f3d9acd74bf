use Rattle.std.proofs.Common.{lit≤}
use Rattle.rtl_layout.specs.Layout as L
use Rattle.rtl_layout.proofs.Built.{all_low, some_low}
use Rattle.rtl_layout.proofs.assigns.visited.Goals as goal

pub name-visit-requires : goal.name-visit-requires
name-visit-requires c = lit≤ tt

pub overflow_sub-result : goal.overflow_sub-result
overflow_sub-result c = c.args.plan.now.is_plan.ready.sized.addr_some

pub returns-then-plan : goal.returns-then-plan
returns-then-plan c = all_low _ L.visit _ _ c.name-visit.ensures c.if-plan.true

pub returns-else-plan : goal.returns-else-plan
returns-else-plan c = some_low _ L.visit _ _ c.name-visit.ensures c.if-plan.false
