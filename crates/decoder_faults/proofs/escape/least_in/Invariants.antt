use Rattle.decoder_faults.specs.inner.Searching.{KnowsOf, NoneBefore}
use Rattle.decoder_faults.proofs.escape.least_in.Given as goal

abbrev pub invariant-loop-number : goal.invariant-loop-number
invariant-loop-number l = record { none : NoneBefore l.march l.fault l.is_below l.number; known : KnowsOf l.march l.fault l.is_below l.dead_ends }
