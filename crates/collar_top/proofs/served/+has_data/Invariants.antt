use Rattle.std.proofs.Common.{length}
use Rattle.collar_top.proofs.served.+has_data.Given as goal

abbrev pub decreases-has_data : goal.decreases-has_data
decreases-has_data l = length l.pins.now
