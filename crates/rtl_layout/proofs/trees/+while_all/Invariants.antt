use Rattle.std.proofs.Common.{length}
use Rattle.rtl_layout.proofs.trees.+while_all.Given as goal

abbrev pub decreases-while_all : goal.decreases-while_all
decreases-while_all l = length l.conditions.now
