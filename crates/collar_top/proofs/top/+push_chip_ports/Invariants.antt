use Rattle.std.proofs.Common.{length}
use Rattle.collar_top.proofs.top.+push_chip_ports.Given as goal

abbrev pub decreases-push_chip_ports : goal.decreases-push_chip_ports
decreases-push_chip_ports l = length l.pins.now
