use Rattle.rtl_layout.proofs.trees.+choices.Given as goal

abbrev pub decreases-choices : goal.decreases-choices
decreases-choices l = l.i
