use Rattle.std.proofs.Common.{length}
use Rattle.collar_top.proofs.top.+push_macro_clocks.Given as goal

abbrev pub decreases-push_macro_clocks : goal.decreases-push_macro_clocks
decreases-push_macro_clocks l = length l.clocks.now
