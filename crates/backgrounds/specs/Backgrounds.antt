-- Trusted. Data backgrounds: the words that a march writes for its two data values.
use Rattle.std.specs.Prelude.{◌≡◌, ◌≢◌, ℕ, ◌+◌, ◌-◌, ◌^◌, ◌<◌, ◌≤◌, Bool, true, false, List, length, slice_index}
use Rattle.std.specs.Int.{bit_at}

-- the word of a data value: the background for 0, and its complement within `bits` bits for 1
abbrev pub word_of : ℕ → Bool → ℕ → ℕ
word_of background false bits = background
word_of background true bits = 2 ^ bits - 1 - background

-- two bit positions differ in a word
abbrev pub Differ : ℕ → ℕ → ℕ → Type 0
Differ i j word = bit_at word i ≢ bit_at word j

-- n is the logarithm of `bits` to the base 2, rounded up
pub record IsLogarithm (bits n : ℕ) : Type 0 where
  pub enough : bits ≤ 2 ^ n
  pub least : (m : ℕ) → bits ≤ 2 ^ m → n ≤ m

-- each bit of the word is bit k of its own position
pub record IsStripe (bits k word : ℕ) : Type 0 where
  pub fits : word < 2 ^ bits
  pub bit : (j : ℕ) → j < bits → bit_at word j ≡ bit_at j k

-- the logarithmic set: the word 0, and behind it a word for each bit that a position has
pub record IsLogSet (bits : ℕ) (set : List ℕ) : Type 0 where
  pub some : 0 < length set
  pub solid : slice_index set 0 ≡ 0
  pub count : IsLogarithm bits (length set - 1)
  pub stripes : (k : ℕ) → k + 1 < length set → IsStripe bits k (slice_index set (k + 1))
