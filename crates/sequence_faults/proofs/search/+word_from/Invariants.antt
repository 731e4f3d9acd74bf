use Rattle.std.proofs.Common.{◌-◌, length}
use Rattle.sequence_faults.proofs.search.+word_from.Given as goal

abbrev pub decreases-word_from : goal.decreases-word_from
decreases-word_from l = length l.march.now - l.i
