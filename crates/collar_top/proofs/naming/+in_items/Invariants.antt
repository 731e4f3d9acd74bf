use Rattle.std.proofs.Common.{length}
use Rattle.collar_top.proofs.naming.+in_items.Given as goal

abbrev pub decreases-in_items : goal.decreases-in_items
decreases-in_items l = length l.items.now
