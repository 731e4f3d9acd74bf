use Rattle.std.proofs.Common.{◌≡◌, map, drop}
use Rattle.bist_text.specs.Keywords.{word_of, seek}
use Rattle.bist_text.proofs.keywords.seek.Given as goal

abbrev pub invariant-loop-i : goal.invariant-loop-i
invariant-loop-i g l = seek l.letters l.letter l.i (map word_of (drop l.i l.words)) ≡ seek l.letters l.letter 0 (map word_of l.words)
