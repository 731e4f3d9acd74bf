-- Inner. The number whose binary digits are the letters of directions.
use Rattle.std.specs.Prelude.{◌≡◌, ◌<◌, ◌-◌, ◌/◌, ◌%◌, ◌^◌, ◌==◌, ℕ, List, slice_index}

-- the number has a digit for each of the first letters, the first on top, which is 1 for a d
pub record HasBits (letters : List ℕ) (count value : ℕ) : Type 0 where
  pub below : value < 2 ^ count
  pub digits : (k : ℕ) → k < count → (value / 2 ^ (count - 1 - k) % 2 == 1) ≡ (slice_index letters k == 100)
