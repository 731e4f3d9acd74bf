use Rattle.linked_faults.specs.inner.Searching.{KnowsOf, NoneBefore, link_places_in}
use Rattle.linked_faults.proofs.escape.least_in.Given as goal

abbrev pub invariant-loop-number : goal.invariant-loop-number
invariant-loop-number l = record { none : NoneBefore l.march l.link l.fn.order l.number; known : KnowsOf l.march l.link (link_places_in l.link l.fn.order) l.dead_ends }
