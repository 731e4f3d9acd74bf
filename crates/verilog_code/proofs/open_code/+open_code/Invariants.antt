use Rattle.std.proofs.Common.{◌+◌, ◌*◌, max}
use Rattle.verilog_code.proofs.code.Code.TheLaws.{the_size}
use Rattle.verilog_code.proofs.open_code.+open_code.Given as goal

-- A choice hands on both its sides, of which the deeper one counts.
abbrev pub decreases-open_operated : goal.decreases-open_operated
decreases-open_operated l = 3 * the_size l.x.now

abbrev pub decreases-open_value : goal.decreases-open_value
decreases-open_value l = 3 * the_size l.x.now + 1

abbrev pub decreases-open_quick : goal.decreases-open_quick
decreases-open_quick l = 3 * the_size l.x.now + 2

abbrev pub decreases-chosen : goal.decreases-chosen
decreases-chosen l = 3 * max (the_size l.a.now) (the_size l.b.now) + 2
