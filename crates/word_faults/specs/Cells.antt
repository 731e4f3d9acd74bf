-- Trusted. One bit of each word, as a list of cells.
use Rattle.std.specs.Prelude.{ℕ, suc, Bool, List, [], ◌∷◌}
use Rattle.word_device.specs.Chips.{has_bit}

-- bit `bit k` of each word k
abbrev pub cells_in : (ℕ → ℕ) → List ℕ → List Bool
cells_in bit [] = []
cells_in bit (w ∷ ws) = has_bit w (bit 0) ∷ cells_in (λ k. bit (suc k)) ws

-- bit j of each
abbrev pub column : ℕ → List ℕ → List Bool
column j words = cells_in (λ k. j) words
