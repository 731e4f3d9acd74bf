use Rattle.std.proofs.Common.{length}
use Rattle.collar_top.proofs.naming.+in_ports.Given as goal

abbrev pub decreases-in_ports : goal.decreases-in_ports
decreases-in_ports l = length l.ports.now
