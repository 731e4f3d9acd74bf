use Rattle.verilog_read.proofs.PlaceSteps.{arm_stepped}
use Rattle.verilog_read.proofs.statements.in_case.Goals as goal

pub returns-in-Constant : goal.returns-in-Constant
returns-in-Constant c = arm_stepped _ _ _ _ _ _ c.args.token.now _ _ _ c.in-Constant.is c.new.ensures.items (c.next_label.ensures c.args.outer.now)
