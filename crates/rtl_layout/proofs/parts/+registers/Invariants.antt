use Rattle.std.proofs.Common.{length}
use Rattle.rtl_layout.proofs.parts.+registers.Given as goal

abbrev pub decreases-registers : goal.decreases-registers
decreases-registers l = length l.rows.now
