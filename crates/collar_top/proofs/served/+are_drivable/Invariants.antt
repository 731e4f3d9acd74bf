use Rattle.std.proofs.Common.{length}
use Rattle.collar_top.proofs.served.+are_drivable.Given as goal

abbrev pub decreases-are_drivable : goal.decreases-are_drivable
decreases-are_drivable l = length l.pins.now
