use Rattle.sequence_faults.specs.inner.Searching.{NoPlaces}
use Rattle.sequence_faults.proofs.escape.least_of_size.Given as goal

abbrev pub invariant-loop-places : goal.invariant-loop-places
invariant-loop-places l = NoPlaces l.march l.prim l.size l.places
