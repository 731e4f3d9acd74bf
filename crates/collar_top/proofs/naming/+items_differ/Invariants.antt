use Rattle.std.proofs.Common.{length}
use Rattle.collar_top.proofs.naming.+items_differ.Given as goal

abbrev pub decreases-items_differ : goal.decreases-items_differ
decreases-items_differ l = length l.items.now
