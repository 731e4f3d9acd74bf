use Rattle.sequence_faults.specs.inner.Searching.{NoContent, AreDead}
use Rattle.sequence_faults.proofs.escape.least_at.Given as goal

abbrev pub invariant-loop-content : goal.invariant-loop-content
invariant-loop-content l = record { none : NoContent l.march l.prim l.size l.places l.content; known : AreDead l.march l.prim l.spots l.dead_ends.known.items }
