use Rattle.report.proofs.ClassOrder.{one_place}
use Rattle.report.proofs.laws.classes_in_order.Goals as goal

pub returns-clause-order : goal.returns-clause-order
returns-clause-order c = one_place
