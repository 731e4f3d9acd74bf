use Rattle.std.proofs.Common.{length}
use Rattle.collar_top.proofs.top.+push_pin_links.Given as goal

abbrev pub decreases-push_pin_links : goal.decreases-push_pin_links
decreases-push_pin_links l = length l.pins.now
