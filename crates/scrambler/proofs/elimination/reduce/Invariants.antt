use Rattle.std.proofs.Common.{slice_index}
use Rattle.scrambler.specs.Reduced.{Reduced}
use Rattle.scrambler.specs.Scrambling.{matrix_of, row}
use Rattle.scrambler.proofs.elimination.reduce.Given as goal

abbrev pub invariant-loop-i : goal.invariant-loop-i
invariant-loop-i l =
    Reduced l.matrix.width l.i (row (matrix_of l.matrix.width l.matrix.rows l.matrix.constant)) (slice_index l.vectors)
