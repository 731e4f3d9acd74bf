use Rattle.std.proofs.Common.{length}
use Rattle.rtl_layout.proofs.parts.+wires.Given as goal

abbrev pub decreases-wires : goal.decreases-wires
decreases-wires l = length l.rows.now
