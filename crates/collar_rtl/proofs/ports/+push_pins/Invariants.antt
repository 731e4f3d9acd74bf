use Rattle.std.proofs.Common.{length}
use Rattle.collar_rtl.proofs.ports.+push_pins.Given as goal

abbrev pub decreases-push_pins : goal.decreases-push_pins
decreases-push_pins l = length l.pins.now
