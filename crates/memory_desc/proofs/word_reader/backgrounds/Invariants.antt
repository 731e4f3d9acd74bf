use Rattle.memory_desc.proofs.Common.{length, words_of, ◌≡◌}
use Rattle.memory_desc.proofs.Left.{Ended}
use Rattle.memory_desc.proofs.word_reader.backgrounds.Given as goal

abbrev pub invariant-loop-next : goal.invariant-loop-next
invariant-loop-next l = Ended (words_of l.left) ≡ Ended (words_of l.further)

abbrev pub decreases-loop-next : goal.decreases-loop-next
decreases-loop-next l = length l.left
