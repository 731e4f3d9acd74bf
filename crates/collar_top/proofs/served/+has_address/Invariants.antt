use Rattle.std.proofs.Common.{length}
use Rattle.collar_top.proofs.served.+has_address.Given as goal

abbrev pub decreases-has_address : goal.decreases-has_address
decreases-has_address l = length l.pins.now
