-- Public. What elimination keeps: as many vectors as the matrix has rows, so that each row dealt with takes 1 of its own
-- vector and 0 of every other. (A row takes 1 of a vector where it names an odd number of its bits.)
use Rattle.std.specs.Prelude.{◌≡◌, ℕ, ◌^◌, ◌<◌}
use Rattle.std.specs.Int.{bit_at}
use Rattle.scrambler.specs.Linear.{dot}

-- the first i rows are dealt with: `source` are the vectors
pub record Reduced (w i : ℕ) (row source : ℕ → ℕ) : Type 0 where
  -- a row takes 1 of its own vector and 0 of each other
  pub own : (j l : ℕ) → j < i → l < w → dot (row j) (source l) ≡ bit_at (2 ^ j) l
  -- only the row of no bits takes 0 of all vectors
  pub separates : (r : ℕ) → r < 2 ^ w → ((l : ℕ) → l < w → dot r (source l) ≡ 0) → r ≡ 0
  pub fits : (l : ℕ) → l < w → source l < 2 ^ w
