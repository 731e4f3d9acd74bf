use Rattle.std.proofs.Common.{◌≡◌, ◌≤◌, take}
use Rattle.word_march.specs.inner.Standing.{pause_count}
use Rattle.word_march.proofs.counts.pause_count.Given as goal

abbrev pub invariant-loop-element : goal.invariant-loop-element
invariant-loop-element l = (l.count ≡ pause_count (take l.element l.march)) × (l.count ≤ l.element)
