-- Inner. For proofs and private contracts alone: what may follow the letters that are read of a table's words, and when no word begins
-- another.
use Rattle.std.specs.Prelude.{◌≡◌, ℕ, ◌==◌, ◌&&◌, ◌||◌, not, Bool, true, false, List, [], ◌∷◌, ◌++◌, slice_get, Some}
use Rattle.bist_text.specs.declared.keywords.Spelled.{Spelled}
use Rattle.bist_text.specs.declared.keywords.Spelled.TheVariants.{More, Whole}
use Rattle.bist_text.specs.Grammar.{word, are_bytes}
use Rattle.bist_text.specs.Keywords.{Word, letters_of}

-- words that stand for one thing
abbrev pub words_for : {N : Type 0} → N → List (List ℕ) → List (Word N)
words_for n [] = []
words_for n (t ∷ ts) = record { text = t; value = n } ∷ words_for n ts

-- the words of several things
abbrev pub all_words : {N : Type 0} → (N → List (List ℕ)) → List N → List (Word N)
all_words texts [] = []
all_words texts (n ∷ ns) = words_for n (texts n) ++ all_words texts ns

-- one of the words that stand for v
abbrev pub stands : {N : Type 0} → List (Word N) → N → (List ℕ → Type 0) → List ℕ → Type 0
stands {N} ws v K b = (i : ℕ) × (w : Word N) × (slice_get ws i ≡ Some w) × (v ≡ w.value) × word w.text K b

-- ---- what may follow

abbrev pub left : {N : Type 0} → List (Word N) → Spelled N → N → (List ℕ → Type 0) → List ℕ → Type 0
left ws (More s) v K b = stands ws v K (letters_of ws s ++ b)
left ws (Whole n) v K b = (v ≡ n) × K b

-- ---- a table's words: each has letters, and none begins another

abbrev pub begins : List ℕ → List ℕ → Bool
begins [] w = true
begins (c ∷ t) [] = false
begins (c ∷ t) (x ∷ w) = (c == x) && begins t w

abbrev pub is_written : List ℕ → Bool
is_written [] = false
is_written (c ∷ t) = are_bytes (c ∷ t)

abbrev pub is_apart : {N : Type 0} → List ℕ → List (Word N) → Bool
is_apart t [] = true
is_apart t (w ∷ ws) = not (begins t w.text || begins w.text t) && is_apart t ws

abbrev pub are_apart : {N : Type 0} → List (Word N) → Bool
are_apart [] = true
are_apart (w ∷ ws) = is_written w.text && (is_apart w.text ws && are_apart ws)
