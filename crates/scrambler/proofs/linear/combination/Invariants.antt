use Rattle.std.proofs.Common.{◌≡◌, slice_index}
use Rattle.scrambler.specs.Linear.{combination}
use Rattle.scrambler.proofs.linear.combination.Given as goal

abbrev pub invariant-loop-i : goal.invariant-loop-i
invariant-loop-i l = l.x ≡ combination (slice_index l.vectors) l.i l.set
