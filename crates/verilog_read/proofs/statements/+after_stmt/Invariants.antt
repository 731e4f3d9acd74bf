use Rattle.std.proofs.Common.{length}
use Rattle.verilog_read.proofs.statements.+after_stmt.Given as goal

abbrev pub decreases-after_stmt : goal.decreases-after_stmt
decreases-after_stmt l = length l.outer.now.holders.items
