use Rattle.std.proofs.Common.{take}
use Rattle.bist_endings.specs.Words.{ArePlain}
use Rattle.bist_endings.proofs.words.are_plain.Given as goal

abbrev pub invariant-loop-word : goal.invariant-loop-word
invariant-loop-word l = ArePlain (take l.word-index l.words)
