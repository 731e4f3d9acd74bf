-- Trusted. Numbers as texts.
use Rattle.std.specs.Prelude.{ℕ, zero, suc, ◌+◌, ◌/◌, ◌%◌, ◌≤◌, List, [], ◌∷◌, ◌++◌, length, false}
use Rattle.std.specs.Str.Parse.{IsNumeral}
use Rattle.std.specs.Fmt.{digit_glyph}

-- one to `most` digits in the radix, and nothing else
abbrev pub IsNumber : ℕ → ℕ → List ℕ → Type 0
IsNumber radix most b = IsNumeral radix b × (length b ≤ most)

-- the last hexadecimal digits of a value, this many, in lower case
abbrev pub hex_digits : ℕ → ℕ → List ℕ
hex_digits zero value = []
hex_digits (suc n) value = hex_digits n (value / 16) ++ (digit_glyph false (value % 16) ∷ [])

-- a word of so many bits in hexadecimal, with as many digits as they need
abbrev pub word_text : ℕ → ℕ → List ℕ
word_text bits word = hex_digits ((bits + 3) / 4) word
