use Rattle.linked_faults.proofs.Same.{link_tells}
use Rattle.linked_faults.proofs.devices.is_same_link.Goals as goal

pub returns-clause-same : goal.returns-clause-same
returns-clause-same c = link_tells c.args.one.now c.args.other.now c.are_same.result c.are_same.ensures
