-- Inner. For proofs and private contracts alone, beside Reduced: what elimination keeps: as many vectors as the matrix has rows, so that each row dealt with takes 1 of its own.
use Rattle.std.specs.Prelude.{◌≡◌, ◌≢◌, ℕ, ◌*◌, ◌<◌, bit_xor}
use Rattle.scrambler.specs.Linear.{dot}

-- the vectors i and p changed places
pub record SwapsAt (i p w : ℕ) (old new : ℕ → ℕ) : Type 0 where
  pub first : new i ≡ old p
  pub second : new p ≡ old i
  pub others : (l : ℕ) → l ≢ i → l ≢ p → new l ≡ old l

-- the vector i was added to those others of which the row r takes 1
pub record ClearsBy (i w r : ℕ) (old new : ℕ → ℕ) : Type 0 where
  pub kept : new i ≡ old i
  pub cleared : (l : ℕ) → l < w → l ≢ i → new l ≡ bit_xor (old l) (dot r (old l) * old i)
