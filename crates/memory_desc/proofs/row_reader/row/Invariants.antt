use Rattle.memory_desc.proofs.Common.{length, ◌≡◌}
use Rattle.memory_desc.proofs.Left.{Ended}
use Rattle.memory_desc.specs.inner.Heard.{terms_of}
use Rattle.memory_desc.proofs.row_reader.row.Given as goal

abbrev pub invariant-loop-next : goal.invariant-loop-next
invariant-loop-next l = Ended (terms_of l.left) ≡ Ended (terms_of l.further)

abbrev pub decreases-loop-next : goal.decreases-loop-next
decreases-loop-next l = length l.left
