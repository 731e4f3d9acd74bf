use Rattle.std.proofs.Common.{◌+◌, ◌*◌, max}
use Rattle.verilog_code.proofs.code.Code.TheLaws.{the_size}
use Rattle.verilog_code.proofs.code.+code_value.Given as goal

-- A choice hands on both its sides, of which the deeper one counts.
abbrev pub decreases-operated : goal.decreases-operated
decreases-operated l = 4 * the_size l.x.now

abbrev pub decreases-value : goal.decreases-value
decreases-value l = 4 * the_size l.x.now + 1

abbrev pub decreases-quick : goal.decreases-quick
decreases-quick l = 4 * the_size l.x.now + 2

abbrev pub decreases-chosen : goal.decreases-chosen
decreases-chosen l = 4 * max (the_size l.a.now) (the_size l.b.now) + 2
