use Rattle.std.proofs.Common.{◌≡◌, slice_index}
use Rattle.scrambler.specs.Linear.{dot, number}
use Rattle.scrambler.proofs.linear.product.Given as goal

abbrev pub invariant-loop-i : goal.invariant-loop-i
invariant-loop-i l = l.y ≡ number (λ i. dot (slice_index l.rows i) l.x) l.i
