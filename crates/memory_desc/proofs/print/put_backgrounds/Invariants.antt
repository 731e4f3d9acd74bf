use Rattle.memory_desc.proofs.Common.{drop, words_text, ◌++◌, ◌≡◌}
use Rattle.memory_desc.proofs.print.put_backgrounds.Given as goal

abbrev pub invariant-loop-word : goal.invariant-loop-word
invariant-loop-word l = l.out.items ++ words_text l.bits (drop l.word-index l.set) ≡ l.initial.out.items ++ words_text l.bits l.set
