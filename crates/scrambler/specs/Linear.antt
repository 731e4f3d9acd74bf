-- Trusted. Linear algebra over the two elements 0 and 1. A vector is a number, its bit i being its part i, and two
-- vectors are added by exclusive or.
use Rattle.std.specs.Prelude.{ℕ, zero, suc, ◌+◌, ◌*◌, ◌%◌, ◌^◌, bit_and, bit_xor, count_ones}
use Rattle.std.specs.Int.{bit_at}

-- the exclusive or of the bits of x that r names
unfoldable pub dot : ℕ → ℕ → ℕ
dot r x = count_ones (bit_and r x) % 2

-- the number of n bits whose bit i is `bit i`
unfoldable pub number : (ℕ → ℕ) → ℕ → ℕ
number bit zero = 0
number bit (suc n) = bit n * 2 ^ n + number bit n

-- the exclusive or of those of the first n vectors that the bits of `set` name
unfoldable pub combination : (ℕ → ℕ) → ℕ → ℕ → ℕ
combination vector zero set = 0
combination vector (suc n) set = bit_xor (bit_at set n * vector n) (combination vector n set)
