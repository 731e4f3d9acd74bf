use Rattle.std.proofs.Common.{length}
use Rattle.collar_rtl.proofs.driving.+assign_pins.Given as goal

abbrev pub decreases-assign_pins : goal.decreases-assign_pins
decreases-assign_pins l = length l.pins.now
