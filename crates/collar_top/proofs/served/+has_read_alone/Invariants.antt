use Rattle.std.proofs.Common.{length}
use Rattle.collar_top.proofs.served.+has_read_alone.Given as goal

abbrev pub decreases-has_read_alone : goal.decreases-has_read_alone
decreases-has_read_alone l = length l.pins.now
