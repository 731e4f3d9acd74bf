use Rattle.std.proofs.Common.{length}
use Rattle.collar_top.proofs.fitting.+placed_fit.Given as goal

abbrev pub decreases-placed_fit : goal.decreases-placed_fit
decreases-placed_fit l = length l.placed.now
