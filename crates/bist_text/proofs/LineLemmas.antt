-- The first line of a text, and the lines behind it.
use Rattle.std.proofs.Common.{◌≡◌, ℕ, ◌+◌, ◌<◌, ◌≤◌, Bool, true, false, not, cond, List, [], ◌∷◌, ◌∙◌, length, take, drop, get_or, refl, arith, sym, ap, ltb, ◌⊎◌, inl, inr}
use Rattle.std.proofs.lemmas.Bool.{eqb-true, lt-ltb, le-ltb}
use Rattle.std.proofs.Math.Dec.{eqb-suc-zero}
use Rattle.bist_text.proofs.Runs.{run_on, run_stop, run_end}
use Rattle.std.specs.Char.{is_newline}
use Rattle.std.specs.List.{slice_split, position_or_len, onto_first}
use Rattle.std.proofs.lemmas.List.{length-take-le, drop_all, take_all}
use Rattle.std.proofs.lemmas.List.Splits.{slice_split_first}
use Rattle.bist_text.specs.Lines.{lines_of_parts, lines_from}

-- a text has at least one part
pub split_some : (b : List ℕ) → (x : List ℕ) × (more : List (List ℕ)) × (slice_split is_newline b ≡ x ∷ more)
split_some [] = ([], [], refl)
split_some (c ∷ b) = go (is_newline c) (slice_split is_newline b) (split_some b)
  where
    go : (t : Bool) (parts : List (List ℕ)) → (x : List ℕ) × (more : List (List ℕ)) × (parts ≡ x ∷ more) → (x : List ℕ) × (more : List (List ℕ)) × (cond t ([] ∷ parts) (onto_first c parts) ≡ x ∷ more)
    go true parts h = ([], parts, refl)
    go false parts h = (c ∷ h.0, h.1, ap (onto_first c) h.2)

-- and no other where no line feed stands in it
split_last : (b : List ℕ) → length b ≤ position_or_len is_newline b → slice_split is_newline b ≡ b ∷ []
split_last [] h = refl
split_last (c ∷ b) h = go (is_newline c) (λ l. split_last b l) h
  where
    go : (t : Bool) → (length b ≤ position_or_len is_newline b → slice_split is_newline b ≡ b ∷ []) → length (c ∷ b) ≤ cond (not t) (1 + position_or_len is_newline b) 0 → cond t ([] ∷ slice_split is_newline b) (onto_first c (slice_split is_newline b)) ≡ (c ∷ b) ∷ []
    go true f l = absurd (omega arith)
    go false f l = ap (onto_first c) (f (omega arith))

-- a line that a line feed ends
pub line_ended : (number start n : ℕ) (b : List ℕ) → n ≡ position_or_len is_newline b → n < length b → lines_from number start b ≡ (record { number = number; start = start; text = take n b; ended = true }) ∷ lines_from (number + 1) (start + (n + 1)) (drop (n + 1) b)
line_ended number start n b e l =
    let parts : slice_split is_newline b ≡ take n b ∷ slice_split is_newline (drop (n + 1) b) = rw e (slice_split_first is_newline b 0 (rw (← e) l)) in
    let some : (x : List ℕ) × (more : List (List ℕ)) × (slice_split is_newline (drop (n + 1) b) ≡ x ∷ more) = split_some (drop (n + 1) b) in
    let whole : slice_split is_newline b ≡ take n b ∷ some.0 ∷ some.1 = parts ∙ ap (λ x. take n b ∷ x) some.2 in
    let size : start + length (take n b) + 1 ≡ start + (n + 1) = let k : length (take n b) ≡ n = length-take-le n b (omega arith) in omega arith in
    ap (lines_of_parts number start) whole ∙ ap (λ s. (record { number = number; start = start; text = take n b; ended = true }) ∷ lines_of_parts (number + 1) s (some.0 ∷ some.1)) size ∙ ap (λ parts. (record { number = number; start = start; text = take n b; ended = true }) ∷ lines_of_parts (number + 1) (start + (n + 1)) parts) (sym some.2)

-- the bytes behind the last line feed
pub line_last : (number start n : ℕ) (b : List ℕ) → n ≡ position_or_len is_newline b → length b ≤ n → 0 < length b → lines_from number start b ≡ (record { number = number; start = start; text = take n b; ended = false }) ∷ lines_from (number + 1) (start + n) (drop n b)
line_last number start n b e l some =
    rw (drop_all n b l, take_all n b l) (ap (lines_of_parts number start) (split_last b (rw (← e) l)) ∙ last_part number start b some)
  where
    last_part : (number start : ℕ) (b : List ℕ) → 0 < length b → lines_of_parts number start (b ∷ []) ≡ (record { number = number; start = start; text = b; ended = false }) ∷ []
    last_part number start [] h = absurd (omega arith)
    last_part number start (c ∷ b) h = rw eqb-suc-zero refl

-- the steps of a search for a line feed
pub feed_on : (b : List ℕ) (i n : ℕ) → i < length b → (get_or b i 0 ≡ 10 → ⊥) → position_or_len is_newline (drop i b) + i ≡ n → position_or_len is_newline (drop (i + 1) b) + (i + 1) ≡ n
feed_on b i n l h e = run_on (λ c. not (is_newline c)) b i n l (other (is_newline (get_or b i 0)) refl) e
  where
    other : (t : Bool) → is_newline (get_or b i 0) ≡ t → not t ≡ true
    other true k = absurd (h (eqb-true (get_or b i 0) 10 k))
    other false k = refl

pub feed_stop : (b : List ℕ) (i n : ℕ) → i < length b → get_or b i 0 ≡ 10 → position_or_len is_newline (drop i b) + i ≡ n → i ≡ n
feed_stop b i n l h e = run_stop (λ c. not (is_newline c)) b i n l (ap (λ c. not (is_newline c)) h) e

pub feed_end : (b : List ℕ) (i n : ℕ) → drop i b ≡ [] → position_or_len is_newline (drop i b) + i ≡ n → i ≡ n
feed_end b i n h e = run_end (λ c. not (is_newline c)) b i n h e

-- a line, and those behind it
pub line_step : (number start n taken : ℕ) (b text rest : List ℕ) → n ≡ position_or_len is_newline b → 0 < length b → text ≡ take n b → rest ≡ drop taken b → (((n < length b) × (taken ≡ n + 1)) ⊎ ((length b ≤ n) × (taken ≡ n))) → lines_from number start b ≡ (record { number = number; start = start; text = text; ended = ltb n (length b) }) ∷ lines_from (number + 1) (start + taken) rest
line_step number start n taken b text rest e some te re way = rw (te, re) (elim way [ inl w ↦ with_feed w.0 w.1 | inr w ↦ without w.0 w.1 ])
  where
    with_feed : n < length b → taken ≡ n + 1 → lines_from number start b ≡ (record { number = number; start = start; text = take n b; ended = ltb n (length b) }) ∷ lines_from (number + 1) (start + taken) (drop taken b)
    with_feed l k = rw (k, lt-ltb n (length b) l) (line_ended number start n b e l)

    without : length b ≤ n → taken ≡ n → lines_from number start b ≡ (record { number = number; start = start; text = take n b; ended = ltb n (length b) }) ∷ lines_from (number + 1) (start + taken) (drop taken b)
    without l k = rw (k, le-ltb n (length b) l) (line_last number start n b e l some)
