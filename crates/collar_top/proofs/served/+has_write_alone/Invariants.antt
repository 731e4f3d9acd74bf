use Rattle.std.proofs.Common.{length}
use Rattle.collar_top.proofs.served.+has_write_alone.Given as goal

abbrev pub decreases-has_write_alone : goal.decreases-has_write_alone
decreases-has_write_alone l = length l.pins.now
