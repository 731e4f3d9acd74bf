use Rattle.std.proofs.Common.{arith}
use Rattle.linked_faults.proofs.Least.{none_in_next}
use Rattle.linked_faults.proofs.escape.least_found.Goals as goal

pub loop-order-preserved : goal.loop-order-preserved
loop-order-preserved c = none_in_next c.args.march.now c.args.link.now c.loop-order.order c.loop-order.invariant c.in_default.ensures

pub returns : goal.returns
returns c = λ o low content few word through. c.loop-order.invariant o (omega (arith, low, c.loop-order-test.false)) content few word through
