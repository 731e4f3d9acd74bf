use Rattle.std.proofs.Common.{length}
use Rattle.collar_top.proofs.fitting.+links_fit.Given as goal

abbrev pub decreases-links_fit : goal.decreases-links_fit
decreases-links_fit l = length l.links.now
