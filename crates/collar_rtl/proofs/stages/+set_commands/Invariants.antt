use Rattle.collar_rtl.proofs.stages.+set_commands.Given as goal

abbrev pub decreases-set_commands : goal.decreases-set_commands
decreases-set_commands l = l.left
