-- Trusted. The words of the command line, without the program's own name.
use Rattle.std.specs.Prelude.{◌≡◌, ◌≢◌, ◌<◌, ◌^◌, ℕ, List, [], ◌∷◌, slice_index_or, decimal, All}
use Rattle.std.specs.Borrow.{Bor}

-- a `&[&str]`
abbrev pub Words : Type 0
Words = List (Bor (List ℕ))

-- the text of word i, which is empty past the end; a slice pattern reads its words with this default
abbrev pub word : Words → ℕ → List ℕ
word words i = (slice_index_or words i (record { ref_ptr = (0, 0); now = [] })).now

-- a word isn't empty and doesn't begin with a hyphen
abbrev pub IsPlain : List ℕ → Type 0
IsPlain [] = ⊥
IsPlain (byte ∷ rest) = byte ≢ 45

-- no word is empty, and none begins with a hyphen
abbrev pub ArePlain : Words → Type 0
ArePlain words = All (λ w. IsPlain w.now) words

-- a number in decimal, without a leading zero, with at most 9 digits
abbrev pub IsNumber : List ℕ → ℕ → Type 0
IsNumber text n = (n < 10 ^ 9) × (text ≡ decimal n)
