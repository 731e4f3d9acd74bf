use Rattle.std.proofs.Common.{◌≡◌, take}
use Rattle.rtl_gen.proofs.tables.backgrounds.Given as goal

abbrev pub invariant-loop-word : goal.invariant-loop-word
invariant-loop-word l = l.set.items ≡ take l.word-index l.words
