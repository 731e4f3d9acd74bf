use Rattle.std.proofs.Common.{length}
use Rattle.collar_top.proofs.served.+has_enable.Given as goal

abbrev pub decreases-has_enable : goal.decreases-has_enable
decreases-has_enable l = length l.pins.now
