use Rattle.linked_faults.proofs.Testing.{test_tells}
use Rattle.linked_faults.proofs.linked.is_linked.Goals as goal

pub returns : goal.returns
returns c = test_tells c.args.link.now c.known.ensures c.known-2.ensures c.passes_test.result c.passes_test.ensures
