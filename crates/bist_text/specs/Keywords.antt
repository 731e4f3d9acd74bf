-- Public. Words of a table that are read letter by letter. The letters that are read are the front of a word; what may follow is
-- what goes on behind them.
use Rattle.std.specs.Prelude.{ℕ, ◌+◌, ◌==◌, ◌&&◌, nat_lt, Bool, if◌then◌else◌, List, [], ◌∷◌, length, take, get_or, slice_get, Option, Some, None}
use Rattle.std.specs.Str.{bytes_eq}
use Rattle.bist_text.specs.declared.keywords.Keyword.{Keyword}
use Rattle.bist_text.specs.declared.keywords.Letters.{Letters}
use Rattle.bist_text.specs.declared.keywords.Spelled.{Spelled}
use Rattle.bist_text.specs.declared.keywords.Spelled.TheVariants.{More, Whole}

-- a word, and what it stands for
pub record Word (N : Type 0) : Type 0 where
  pub text : List ℕ
  pub value : N

abbrev pub word_of : {N : Type 0} → Keyword N → Word N
word_of k = record { text = k.0.now; value = k.1 }

-- ---- what a reader does, letter by letter

-- the first letters of a word, where there are more of it
abbrev pub front_of : {N : Type 0} → Option (Word N) → ℕ → List ℕ
front_of None n = []
front_of (Some w) n = if nat_lt n (length w.text) then take n w.text else []

abbrev pub letters_of : {N : Type 0} → List (Word N) → Letters → List ℕ
letters_of ws s = front_of (slice_get ws s.word) s.count

-- a word goes on behind these letters by c
abbrev pub goes_on : List ℕ → ℕ → List ℕ → Bool
goes_on ls c w = nat_lt (length ls) (length w) && (bytes_eq (take (length ls) w) ls && (get_or w (length ls) 0 == c))

-- and is whole then, or is word i of the table with one letter more
abbrev pub spelled_as : {N : Type 0} → List ℕ → ℕ → Word N → Spelled N
spelled_as ls i w = if length w.text == (length ls + 1) then Whole w.value else More (record { word = i; count = length ls + 1 })

-- the first word that goes on so, of those from word i on
abbrev pub seek : {N : Type 0} → List ℕ → ℕ → ℕ → List (Word N) → Option (Spelled N)
seek ls c i [] = None
seek ls c i (w ∷ ws) = if goes_on ls c w.text then Some (spelled_as ls i w) else seek ls c (i + 1) ws

abbrev pub spell : {N : Type 0} → List (Word N) → Letters → ℕ → Option (Spelled N)
spell ws s c = seek (letters_of ws s) c 0 ws
