use Rattle.collar_rtl.proofs.Building.{appended, more_regs}
use Rattle.collar_rtl.proofs.stages.+declare_commands.Goals as goal

pub returns : goal.returns
returns t c =
    appended c.declare_commands.result _ _ _ _ _ _ (more_regs c.args.bits c.args.address c.args.stage c.args.left c.if-left-eq0.false) c.in_ok-declare_command.ensures
    c.declare_commands.ensures
