use Rattle.std.proofs.Common.{slice_index}
use Rattle.scrambler.proofs.Clearing.{ClearedBelow}
use Rattle.scrambler.proofs.elimination.clear.Given as goal

abbrev pub invariant-loop-l : goal.invariant-loop-l
invariant-loop-l l = ClearedBelow l.place l.l l.row (slice_index l.initial.vectors) (slice_index l.vectors)
