-- What is found among contents that are numbered as lines, some of them rows.
use Rattle.memory_desc.proofs.Common.{Bool, Content, List, None, Scrambling, Some, Subject, [], about, ap, arith, cases_lt, cond, content_of, eq-eqb, false, find, inl, inr, is_about, is_other, is_row, is_same, list_any, nat_tests, not, refl, row_terms, scramble, subject, subst, suc, sym, true, with_rows, zero, ℕ, ◌+◌, ◌<◌, ◌==◌, ◌||◌, ◌∙◌, ◌∷◌, ◌≡◌, ◌≤◌}
use Rattle.memory_desc.specs.Table.{is_repeat}
use Rattle.memory_desc.specs.declared.content.Subject.TheVariants.{Row}
use Rattle.memory_desc.proofs.Repeats.{same_is}
use Rattle.memory_desc.proofs.BackLines.{Each, numbered}

-- ---- what is found is a content with its number

pub content_found : (p : Content → Bool) (n : ℕ) (cs : List Content) → content_of (find (λ s. p s.content) (numbered n cs)) ≡ find p cs
content_found p n [] = refl
content_found p n (c ∷ cs) = go (p c) (content_found p (n + 1) cs)
  where
    go : (t : Bool) → content_of (find (λ s. p s.content) (numbered (n + 1) cs)) ≡ find p cs
        → content_of (cond t (Some (record { line = n; content = c })) (find (λ s. p s.content) (numbered (n + 1) cs))) ≡ cond t (Some c) (find p cs)
    go true h = refl
    go false h = h

-- nothing, where no content passes
pub none_found : (P : Content → Type 0) (p : Content → Bool) (n : ℕ) (cs : List Content) → ((c : Content) → P c → p c ≡ false) → Each P cs
    → find (λ s. p s.content) (numbered n cs) ≡ None
none_found P p n [] f h = refl
none_found P p n (c ∷ cs) f h = rw (f c h.0) (none_found P p (n + 1) cs f h.1)

pub any_found : (p : Content → Bool) (n : ℕ) (cs : List Content) → list_any (λ s. p s.content) (numbered n cs) ≡ list_any p cs
any_found p n [] = refl
any_found p n (c ∷ cs) = ap (λ (t : Bool). p c || t) (any_found p (n + 1) cs)

-- ---- among rows

abbrev pub row_content : Scrambling → ℕ → Content
row_content s i = scramble i (row_terms s i)

pub each_row : (P : Content → Type 0) (s : Scrambling) (k : ℕ) (cs : List Content) → ((i : ℕ) → i < k → P (row_content s i)) → Each P cs → Each P (with_rows s k cs)
each_row P s zero cs f h = h
each_row P s (suc k) cs f h = each_row P s k (row_content s k ∷ cs) (λ i l. f i (omega arith)) (f k (omega arith), h)

-- rows that don't pass are passed over
pub past_rows : (p : Content → Bool) (s : Scrambling) (k : ℕ) (cs : List Content) → ((i : ℕ) → i < k → p (row_content s i) ≡ false) → find p (with_rows s k cs) ≡ find p cs
past_rows p s zero cs f = refl
past_rows p s (suc k) cs f = past_rows p s k (row_content s k ∷ cs) (λ i l. f i (omega arith)) ∙ rw (f k (omega arith)) refl

pub row_found : (s : Scrambling) (j k : ℕ) (cs : List Content) → j < k → find (λ c. is_same (Row j) (subject c)) (with_rows s k cs) ≡ Some (row_content s j)
row_found s j zero cs h = absurd (omega arith)
row_found s j (suc k) cs h =
    elim (cases_lt j k) [
      | inl q ↦ row_found s j k (row_content s k ∷ cs) q
      | inr q ↦ let e : k ≡ j = omega arith in
          past_rows (λ c. is_same (Row j) (subject c)) s k (row_content s k ∷ cs) (λ i l. other i (omega arith))
          ∙ rw (e, eq-eqb j j refl) refl
    ]
  where
    other : (i : ℕ) → i < j → (j == i) ≡ false
    other i l = grind (arith, nat_tests)

before_some : (s : Scrambling) (k : ℕ) (cs : List Content) → list_any is_row cs ≡ true → list_any is_row (with_rows s k cs) ≡ true
before_some s zero cs h = h
before_some s (suc k) cs h = before_some s k (row_content s k ∷ cs) refl

pub some_rows : (s : Scrambling) (k : ℕ) (cs : List Content) → 1 ≤ k → list_any is_row (with_rows s k cs) ≡ true
some_rows s zero cs h = absurd (omega arith)
some_rows s (suc k) cs h = before_some s k (row_content s k ∷ cs) refl

-- ---- no repeats, where the subject alone says which line it is

abbrev pub Placed : (Subject → ℕ) → ℕ → List Content → Type 0
Placed place n [] = Unit {0}
Placed place n (c ∷ cs) = (place (subject c) ≡ n) × Placed place (n + 1) cs

pub placed_rows : (place : Subject → ℕ) (s : Scrambling) (n k : ℕ) (cs : List Content) → ((i : ℕ) → place (Row i) ≡ n + i)
    → Placed place (n + k) cs → Placed place n (with_rows s k cs)
placed_rows place s n zero cs f h = (let e : n + 0 ≡ n = omega arith in subst (λ (m : ℕ). Placed place m cs) e h)
placed_rows place s n (suc k) cs f h =
    let e : n + suc k ≡ (n + k) + 1 = omega arith in
    placed_rows place s n k (row_content s k ∷ cs) f (f k, subst (λ (m : ℕ). Placed place m cs) e h)

-- what is found of a subject stands in its place
in_place : (place : Subject → ℕ) (q : Subject) (n : ℕ) (cs : List Content) → Placed place n cs → is_other (place q) (about q (numbered n cs)) ≡ false
in_place place q n [] h = refl
in_place place q n (c ∷ cs) h = go (is_same q (subject c)) refl (in_place place q (n + 1) cs h.1)
  where
    go : (t : Bool) → is_same q (subject c) ≡ t → is_other (place q) (about q (numbered (n + 1) cs)) ≡ false
        → is_other (place q) (cond t (Some (record { line = n; content = c })) (find (is_about q) (numbered (n + 1) cs))) ≡ false
    go true e i = ap not (eq-eqb n (place q) (sym h.0 ∙ ap place (sym (same_is q (subject c) e))))
    go false e i = i

pub no_repeat : (place : Subject → ℕ) (n : ℕ) (cs : List Content) → Placed place n cs → find (is_repeat (numbered n cs)) (numbered n cs) ≡ None
no_repeat place n cs h = each n cs h
  where
    each : (m : ℕ) (ds : List Content) → Placed place m ds → find (is_repeat (numbered n cs)) (numbered m ds) ≡ None
    each m [] g = refl
    each m (d ∷ ds) g =
        let none = subst (λ (l : ℕ). is_other l (about (subject d) (numbered n cs)) ≡ false) g.0 (in_place place (subject d) n cs h) in
        rw none (each (m + 1) ds g.1)
