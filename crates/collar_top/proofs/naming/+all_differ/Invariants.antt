use Rattle.std.proofs.Common.{length}
use Rattle.collar_top.proofs.naming.+all_differ.Given as goal

abbrev pub decreases-all_differ : goal.decreases-all_differ
decreases-all_differ l = length l.ports.now
