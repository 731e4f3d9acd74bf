-- Inner. For proofs and private contracts alone, beside WayBack: what the two tables of a way back lead to, byte by byte.
use Rattle.std.specs.Prelude.{◌≡◌, ◌<◌, ◌≤◌, ◌*◌, ◌^◌, ℕ, List, slice_index, bit_xor}
use Rattle.scrambler.specs.Scrambling.{Scrambling, logical}

-- an index with this address
pub record IsBack (s : Scrambling) (a k : ℕ) : Type 0 where
  pub below : k < 2 ^ s.width
  pub back : logical s k ≡ a

-- the low bytes up to the last, as addresses
abbrev pub AreLow : Scrambling → List ℕ → ℕ → Type 0
AreLow s low last = (x : ℕ) → x ≤ last → IsBack s x (slice_index low x)

-- the high bytes up to the last, as addresses whose low byte is 0; what the address 0 leads to is left out
abbrev pub AreHigh : Scrambling → List ℕ → ℕ → ℕ → Type 0
AreHigh s high zeros last = (x : ℕ) → x ≤ last → IsBack s (x * 256) (bit_xor (slice_index high x) zeros)
