use Rattle.std.proofs.Common.{length}
use Rattle.collar_top.proofs.top.+push_pin_wires.Given as goal

abbrev pub decreases-push_pin_wires : goal.decreases-push_pin_wires
decreases-push_pin_wires l = length l.pins.now
