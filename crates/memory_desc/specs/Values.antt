-- Trusted. The values that a description's statements give.
use Rattle.std.specs.Prelude.{◌≡◌, ℕ, zero, suc, ◌^◌, Bool, true, false, not, List, [], ◌∷◌, ◌++◌, Option, Some, bit_xor}
use Rattle.std.specs.Int.{from_bool}
use Rattle.backgrounds.specs.Backgrounds.{IsLogSet}
use Rattle.scrambler.specs.Linear.{number}
use Rattle.scrambler.specs.Scrambling.{Scrambling}
use Rattle.memory_desc.specs.LineText.{Term, index_bit, constant, Content, name, words, bits, latency, polarity, pause, scramble, backgrounds}
use Rattle.memory_desc.specs.Statements.{Statement}
use Rattle.memory_desc.specs.Subjects.{said}
use Rattle.memory_desc.specs.declared.content.Subject.TheVariants.{Name, Words, Bits, Latency, Polarity, Pause, Row}

-- ---- names and numbers

abbrev pub number_in : Option Content → ℕ
number_in (Some (words n)) = n
number_in (Some (bits n)) = n
number_in other = 0

abbrev pub name_in : Option Content → List ℕ
name_in (Some (name b)) = b
name_in other = []

abbrev pub name_said : List Statement → List ℕ
name_said ss = name_in (said Name ss)

abbrev pub words_said : List Statement → ℕ
words_said ss = number_in (said Words ss)

abbrev pub bits_said : List Statement → ℕ
bits_said ss = number_in (said Bits ss)

-- where nothing is said of them, the latency and the pause are one cycle, and no bit is stored inverted
abbrev pub latency_in : Option Content → ℕ
latency_in (Some (latency n)) = n
latency_in other = 1

abbrev pub polarity_in : Option Content → ℕ
polarity_in (Some (polarity w)) = w
polarity_in other = 0

abbrev pub pause_in : Option Content → ℕ
pause_in (Some (pause n)) = n
pause_in other = 1

abbrev pub latency_said : List Statement → ℕ
latency_said ss = latency_in (said Latency ss)

abbrev pub polarity_said : List Statement → ℕ
polarity_said ss = polarity_in (said Polarity ss)

abbrev pub pause_said : List Statement → ℕ
pause_said ss = pause_in (said Pause ss)

-- ---- rows

-- the exclusive or of the index bits that terms name: equal terms cancel
abbrev pub index_bits : List Term → ℕ
index_bits [] = 0
index_bits (index_bit n ∷ ts) = bit_xor (2 ^ n) (index_bits ts)
index_bits (constant b ∷ ts) = index_bits ts

-- the exclusive or of the constants
abbrev pub constant_of : List Term → Bool
constant_of [] = false
constant_of (index_bit n ∷ ts) = constant_of ts
constant_of (constant true ∷ ts) = not (constant_of ts)
constant_of (constant false ∷ ts) = constant_of ts

abbrev pub terms_in : Option Content → List Term
terms_in (Some (scramble i ts)) = ts
terms_in other = []

-- the terms of a row
abbrev pub terms_said : List Statement → ℕ → List Term
terms_said ss i = terms_in (said (Row i) ss)

-- the first n rows
abbrev pub rows_said : List Statement → ℕ → List ℕ
rows_said ss zero = []
rows_said ss (suc n) = rows_said ss n ++ index_bits (terms_said ss n) ∷ []

-- the matrix and the constants of the rows
abbrev pub matrix_said : List Statement → ℕ → Scrambling
matrix_said ss width =
    record { width = width; rows = rows_said ss width; constant = number (λ i. from_bool (constant_of (terms_said ss i))) width }

-- ---- backgrounds

-- the words that are listed, or the logarithmic set
abbrev pub AreBackgrounds : Option Content → ℕ → List ℕ → Type 0
AreBackgrounds (Some (backgrounds ws)) size set = set ≡ ws
AreBackgrounds other size set = IsLogSet size set
