use Rattle.linked_faults.specs.inner.Searching.{NoneIn}
use Rattle.linked_faults.proofs.escape.least_found.Given as goal

abbrev pub invariant-loop-order : goal.invariant-loop-order
invariant-loop-order l = NoneIn l.march l.link l.order
