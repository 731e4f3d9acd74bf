use Rattle.pair_tracker.specs.Reached.{KnowsOf}
use Rattle.escape_array.specs.inner.Searching.{NoneBefore}
use Rattle.escape_array.proofs.search.least_in.Given as goal

abbrev pub invariant-loop-number : goal.invariant-loop-number
invariant-loop-number l = record { none : NoneBefore l.march l.prim l.placement l.number; known : KnowsOf l.whole l.dead_ends }
