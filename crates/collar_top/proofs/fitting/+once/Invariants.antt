use Rattle.std.proofs.Common.{length}
use Rattle.collar_top.proofs.fitting.+once.Given as goal

abbrev pub decreases-once : goal.decreases-once
decreases-once l = length l.links.now
