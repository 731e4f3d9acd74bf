use Rattle.std.proofs.Common.{length}
use Rattle.collar_top.proofs.served.+has_way.Given as goal

abbrev pub decreases-has_way : goal.decreases-has_way
decreases-has_way l = length l.pins.now
