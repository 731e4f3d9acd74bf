-- Trusted. Address scrambling: a logical address is an invertible matrix times the physical index, plus a constant,
-- over the two elements 0 and 1.
use Rattle.std.specs.Prelude.{◌≡◌, ℕ, ◌+◌, ◌%◌, ◌^◌, ◌<◌, ◌≤◌, ◌==◌, ◌&&◌, Bool, true, List, [], ◌∷◌, zero, suc, length, slice_index, take}
use Rattle.std.specs.Int.{bit_at}
use Rattle.scrambler.specs.Linear.{dot, number, combination}

-- a row for each bit of the address, which names bits of the index, and a constant bit for each row
pub record Scrambling : Type 0 where
  pub width : ℕ
  pub rows : List ℕ
  pub constant : ℕ

abbrev pub row : Scrambling → ℕ → ℕ
row m i = slice_index m.rows i

-- the matrix times the vector x
abbrev pub product : Scrambling → ℕ → ℕ
product m x = number (λ i. dot (row m i) x) m.width

-- each vector of `width` bits is the product with exactly one of them
abbrev pub IsInvertible : Scrambling → Type 0
IsInvertible m = (y : ℕ) → y < 2 ^ m.width
    → (x : ℕ) × (x < 2 ^ m.width) × (product m x ≡ y) × ((z : ℕ) → z < 2 ^ m.width → product m z ≡ y → z ≡ x)

-- row i is the exclusive or of a set of the rows below it
pub record DependsOn (m : Scrambling) (i set : ℕ) : Type 0 where
  pub below : set < 2 ^ i
  pub sum : combination (row m) i set ≡ row m i

-- the least row that is the exclusive or of a set of rows below it, together with that set
pub record IsLeastDependence (m : Scrambling) (rows : ℕ) : Type 0 where
  pub last : ℕ
  pub others : ℕ
  pub in_matrix : last < m.width
  pub depends : DependsOn m last others
  pub together : rows ≡ 2 ^ last + others
  pub least : (j set : ℕ) → j < last → DependsOn m j set → ⊥

-- bit i of the logical address of the index k: the exclusive or of the constant of row i and the bits of k that it names
abbrev pub logical_bit : Scrambling → ℕ → ℕ → ℕ
logical_bit m k i = (bit_at m.constant i + dot (row m i) k) % 2

-- the logical address of the index k
abbrev pub logical : Scrambling → ℕ → ℕ
logical m k = number (logical_bit m k) m.width

-- widths from 1 to 16, and nothing at or above the width
pub record IsWithin (width : ℕ) (rows : List ℕ) (constant : ℕ) : Type 0 where
  pub positive : 1 ≤ width
  pub narrow : width ≤ 16
  pub rows_fit : (i : ℕ) → i < width → slice_index rows i < 2 ^ width
  pub constant_fits : constant < 2 ^ width

-- a row for each bit of the address, and nothing at or above the width
pub record IsFull (m : Scrambling) : Type 0 where
  pub count : length m.rows ≡ m.width
  pub rows_fit : (i : ℕ) → i < m.width → row m i < 2 ^ m.width
  pub constant_fits : m.constant < 2 ^ m.width

-- the matrix of the first `width` rows
abbrev pub matrix_of : ℕ → List ℕ → ℕ → Scrambling
matrix_of width rows constant = record { width = width; rows = take width rows; constant = constant }

-- x, twice x, four times x, and so on, n of them
abbrev pub doublings : ℕ → ℕ → List ℕ
doublings x zero = []
doublings x (suc n) = x ∷ doublings (x + x) n

-- each row names its own bit alone
abbrev pub identity : ℕ → Scrambling
identity width = record { width = width; rows = doublings 1 width; constant = 0 }

-- each of the first n rows names its own bit alone
abbrev pub are_units : Scrambling → ℕ → Bool
are_units s zero = true
are_units s (suc n) = are_units s n && (row s n == 2 ^ n)

-- each bit of the address is that of the index
abbrev pub is_identity : Scrambling → Bool
is_identity s = (s.constant == 0) && are_units s s.width
