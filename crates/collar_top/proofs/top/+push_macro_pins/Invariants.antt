use Rattle.std.proofs.Common.{length}
use Rattle.collar_top.proofs.top.+push_macro_pins.Given as goal

abbrev pub decreases-push_macro_pins : goal.decreases-push_macro_pins
decreases-push_macro_pins l = length l.pins.now
