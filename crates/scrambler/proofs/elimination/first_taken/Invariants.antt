use Rattle.std.proofs.Common.{◌≡◌, ℕ, ◌<◌, ◌≤◌, slice_index}
use Rattle.scrambler.specs.Linear.{dot}
use Rattle.scrambler.proofs.elimination.first_taken.Given as goal

abbrev pub invariant-loop-l : goal.invariant-loop-l
invariant-loop-l l = (k : ℕ) → l.from ≤ k → k < l.l → dot l.row (slice_index l.vectors k) ≡ 0
