use Rattle.sequence_faults.specs.inner.Searching.{NoSize}
use Rattle.sequence_faults.proofs.escape.least_found.Given as goal

abbrev pub invariant-loop-size : goal.invariant-loop-size
invariant-loop-size l = NoSize l.march l.prim l.size
