use Rattle.collar_rtl.proofs.stages.+set_words.Given as goal

abbrev pub decreases-set_words : goal.decreases-set_words
decreases-set_words l = l.left
