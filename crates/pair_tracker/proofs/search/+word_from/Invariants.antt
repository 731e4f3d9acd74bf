use Rattle.std.proofs.Common.{◌-◌}
use Rattle.pair_tracker.proofs.search.+word_from.Given as goal

abbrev pub decreases-word_from : goal.decreases-word_from
decreases-word_from g l = g.W.Ways.count l.ways.now - l.i
