-- Public. What a scrambling keeps beside its matrix.
use Rattle.std.specs.Prelude.{ℕ, List, slice_index}
use Rattle.scrambler.specs.Reduced.{Reduced}
use Rattle.scrambler.specs.Scrambling.{IsWithin, matrix_of, row}

-- the vectors undo the matrix: row i takes 1 of vector i and 0 of each other
pub record IsUndone (width : ℕ) (rows : List ℕ) (constant : ℕ) (vectors : List ℕ) : Type 0 where
  pub within : IsWithin width rows constant
  pub reduced : Reduced width width (row (matrix_of width rows constant)) (slice_index vectors)
