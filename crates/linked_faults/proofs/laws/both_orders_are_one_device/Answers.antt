use Rattle.linked_faults.proofs.Orders.{one_device}
use Rattle.linked_faults.proofs.laws.both_orders_are_one_device.Goals as goal

pub returns : goal.returns
returns c is = one_device c.args.link.now is
