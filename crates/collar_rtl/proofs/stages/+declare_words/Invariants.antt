use Rattle.collar_rtl.proofs.stages.+declare_words.Given as goal

abbrev pub decreases-declare_words : goal.decreases-declare_words
decreases-declare_words l = l.left
