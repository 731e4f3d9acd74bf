use Rattle.collar_rtl.proofs.stages.+declare_commands.Given as goal

abbrev pub decreases-declare_commands : goal.decreases-declare_commands
decreases-declare_commands l = l.left
