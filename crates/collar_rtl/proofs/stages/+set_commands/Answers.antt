use Rattle.collar_rtl.proofs.Building.{appended, more_sets}
use Rattle.collar_rtl.proofs.stages.+set_commands.Goals as goal

pub returns : goal.returns
returns t c =
    appended c.set_commands.result _ _ _ _ _ _ (more_sets c.args.stage c.args.left c.if-left-eq0.false) c.in_ok-set_command.ensures c.set_commands.ensures
