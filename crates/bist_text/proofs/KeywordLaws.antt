-- What may follow the letters of a table's words, by the next letter.
use Rattle.std.proofs.Common.{◌≡◌, ◌↔◌, ◌⊎◌, inl, inr, ℕ, zero, suc, ◌+◌, ◌==◌, ◌<◌, ◌&&◌, ◌||◌, ◌∙◌, not, Bool, true, false, List, [], ◌∷◌, ◌++◌, length, take, drop, get_or, drop-cons, Option, Some, None, refl, sym, ap, subst, arith, append_assoc, append-nil, length-append, if◌then◌else◌}
use Rattle.std.specs.List.{list_all}
use Rattle.std.specs.Prelude.{nat_lt, slice_get}
use Rattle.std.specs.Str.{bytes_eq}
use Rattle.std.proofs.Math.Seq.{take-append_seam, take-append-add, get_or-append_seam}
use Rattle.std.proofs.lemmas.List.{length-take-le}
use Rattle.std.proofs.lemmas.Slice.Eq.{bytes_eq-Decides}
use Rattle.std.proofs.lemmas.Bool.{and_parts, and_from, not-true, or_right, or_left, eqb-true, eqb-false, eq-eqb, ltb-true, lt-ltb, both_ways}
use Rattle.bist_text.specs.declared.keywords.Letters.{Letters}
use Rattle.bist_text.specs.declared.keywords.Spelled.{Spelled}
use Rattle.bist_text.specs.declared.keywords.Spelled.TheVariants.{More, Whole}
use Rattle.bist_text.specs.Grammar.{word, when, one_of, are_bytes}
use Rattle.bist_text.specs.Keywords.{Word, front_of, letters_of, goes_on, spelled_as, seek, spell}
use Rattle.bist_text.specs.inner.Keywords.{stands, left, begins, is_written, is_apart, are_apart, words_for, all_words}
use Rattle.bist_text.specs.Machine.{Holds}
use Rattle.bist_text.proofs.Bytes.{are_bytes-drop}
use Rattle.bist_text.proofs.Settled.{split_at}
use Rattle.bist_text.proofs.Pieces.{also, word_on, never}

-- ---- one of the words, word by word

abbrev among : {N : Type 0} → List (Word N) → N → (List ℕ → Type 0) → List ℕ → Type 0
among [] v K b = ⊥
among (w ∷ ws) v K b = ((v ≡ w.value) × word w.text K b) ⊎ among ws v K b

stands_among : {N : Type 0} (ws : List (Word N)) (v : N) (K : List ℕ → Type 0) (b : List ℕ) → stands ws v K b ↔ among ws v K b
stands_among {N} ws v K b = (λ h. to ws h.0 h.1 h.2 (h.3, h.4), from ws)
  where
    is_head : (x w : Word N) → Some x ≡ Some w → w ≡ x
    is_head x w e = cc

    to : (ws : List (Word N)) (i : ℕ) (w : Word N) → slice_get ws i ≡ Some w → (v ≡ w.value) × word w.text K b → among ws v K b
    to [] i w e h = cc
    to (x ∷ ws) zero w e h = inl (subst (λ (y : Word N). (v ≡ y.value) × word y.text K b) (is_head x w e) h)
    to (x ∷ ws) (suc i) w e h = inr (to ws i w e h)

    from : (ws : List (Word N)) → among ws v K b → stands ws v K b
    from [] h = absurd h
    from (x ∷ ws) h = elim h [ inl z ↦ (0, x, refl, z.0, z.1) | inr z ↦ (let s = from ws z in (suc s.0, s.1, s.2, s.3, s.4)) ]

-- of two tables, and of several texts that stand for one thing
among_append : {N : Type 0} (xs ys : List (Word N)) (v : N) (K : List ℕ → Type 0) (b : List ℕ) → among (xs ++ ys) v K b ↔ (among xs v K b ⊎ among ys v K b)
among_append [] ys v K b = (inr, elim [ inl z ↦ absurd z | inr z ↦ z ])
among_append (x ∷ xs) ys v K b =
    let more = among_append xs ys v K b in (
      elim [ inl z ↦ inl (inl z) | inr z ↦ elim (more.0 z) [ inl y ↦ inl (inr y) | inr y ↦ inr y ] ],
      elim [ inl z ↦ elim z [ inl y ↦ inl y | inr y ↦ inr (more.1 (inl y)) ] | inr z ↦ inr (more.1 (inr z)) ],
    )

among_texts : {N : Type 0} (n : N) (ts : List (List ℕ)) (v : N) (K : List ℕ → Type 0) (b : List ℕ) → among (words_for n ts) v K b ↔ ((v ≡ n) × one_of ts K b)
among_texts n [] v K b = never (λ h. h) (λ h. h.1)
among_texts n (t ∷ ts) v K b =
    let more = among_texts n ts v K b in (
      elim [ inl z ↦ (z.0, inl z.1) | inr z ↦ ((more.0 z).0, inr (more.0 z).1) ],
      λ h. elim h.1 [ inl z ↦ inl (h.0, z) | inr z ↦ inr (more.1 (h.0, z)) ],
    )

-- a thing is one of these
abbrev pub IsOf : {N : Type 0} → List N → N → Type 0
IsOf [] v = ⊥
IsOf (n ∷ ns) v = (v ≡ n) ⊎ IsOf ns v

pub is_at : {N : Type 0} (ns : List N) (i : ℕ) (n : N) → slice_get ns i ≡ Some n → IsOf ns n
is_at [] i n e = cc
is_at (m ∷ ns) zero n e = inl (let same : m ≡ n = cc in sym same)
is_at (m ∷ ns) (suc i) n e = inr (is_at ns i n e)

pub is_passed : {N : Type 0} (p : N → Bool) (ns : List N) (n : N) → list_all p ns ≡ true → IsOf ns n → p n ≡ true
is_passed p [] n h i = absurd i
is_passed p (m ∷ ns) n h i = let parts = and_parts (p m) (list_all p ns) h in elim i [ inl e ↦ ap p e ∙ parts.0 | inr k ↦ is_passed p ns n parts.1 k ]

pub stands_all : {N : Type 0} (texts : N → List (List ℕ)) (ns : List N) (v : N) (K : List ℕ → Type 0) (b : List ℕ) → stands (all_words texts ns) v K b ↔ (IsOf ns v × one_of (texts v) K b)
stands_all {N} texts ns v K b = also (stands_among (all_words texts ns) v K b) (go ns)
  where
    go : (ns : List N) → among (all_words texts ns) v K b ↔ (IsOf ns v × one_of (texts v) K b)
    go [] = never (λ h. h) (λ h. h.0)
    go (n ∷ ns) =
        let parts = among_append (words_for n (texts n)) (all_words texts ns) v K b in
        let first = among_texts n (texts n) v K b in
        let others = go ns in (
          λ h. elim (parts.0 h) [
            | inl z ↦ (let f = first.0 z in (inl f.0, subst (λ m. one_of (texts m) K b) (sym f.0) f.1))
            | inr z ↦ (let o = others.0 z in (inr o.0, o.1))
          ],
          λ h. parts.1 (elim h.0 [ inl e ↦ inl (first.1 (e, subst (λ m. one_of (texts m) K b) e h.1)) | inr k ↦ inr (others.1 (k, h.1)) ]),
        )

-- ---- texts that begin others

begins_more : (t r : List ℕ) → begins t (t ++ r) ≡ true
begins_more [] r = refl
begins_more (c ∷ t) r = rw (eq-eqb c c refl) (begins_more t r)

-- a text is behind a word, or a part of it
abbrev Behind : List ℕ → List ℕ → List ℕ → (List ℕ → Type 0) → Type 0
Behind w t b K = ((r : List ℕ) × (w ≡ t ++ r) × word r K b) ⊎ ((x : ℕ) × (r : List ℕ) × (t ≡ w ++ x ∷ r))

behind_word : (w t b : List ℕ) (K : List ℕ → Type 0) → word w K (t ++ b) → Behind w t b K
behind_word w [] b K h = inl (w, refl, h)
behind_word [] (c ∷ t) b K h = inr (c, t, refl)
behind_word (x ∷ w) (c ∷ t) b K h = go (c == x) refl h (behind_word w t b K)
  where
    go : (q : Bool) → (c == x) ≡ q → when q (word w K (t ++ b)) → (word w K (t ++ b) → Behind w t b K) → Behind (x ∷ w) (c ∷ t) b K
    go false e h f = absurd h
    go true e h f =
        let same : c ≡ x = eqb-true c x e in
        elim (f h) [
          | inl z ↦ inl (z.0, ap (λ y. y ∷ w) (sym same) ∙ ap (λ y. c ∷ y) z.1, z.2)
          | inr z ↦ inr (z.0, z.1, ap (λ y. y ∷ t) same ∙ ap (λ y. x ∷ y) z.2)
        ]

-- what a text with one letter more begins with, and more follows, the text begins with
one_less : (w ls r : List ℕ) (c x : ℕ) → ls ++ c ∷ [] ≡ w ++ x ∷ r → (s : List ℕ) × (ls ≡ w ++ s)
one_less [] ls r c x e = (ls, refl)
one_less (y ∷ w) [] r c x e = absurd (too_short w (rest_is e))
  where
    rest_is : c ∷ [] ≡ y ∷ (w ++ x ∷ r) → [] ≡ w ++ x ∷ r
    rest_is e = cc

    too_short : (w : List ℕ) → [] ≡ w ++ x ∷ r → ⊥
    too_short [] e = cc
    too_short (z ∷ w) e = cc
one_less (y ∷ w) (l ∷ ls) r c x e =
    let head : l ≡ y = head_is e in
    let rest = one_less w ls r c x (rest_is e) in
    (rest.0, ap (λ z. z ∷ ls) head ∙ ap (λ z. y ∷ z) rest.1)
  where
    head_is : l ∷ (ls ++ c ∷ []) ≡ y ∷ (w ++ x ∷ r) → l ≡ y
    head_is e = cc

    rest_is : l ∷ (ls ++ c ∷ []) ≡ y ∷ (w ++ x ∷ r) → ls ++ c ∷ [] ≡ w ++ x ∷ r
    rest_is e = cc

-- ---- whether a word goes on

goes_behind : (ls w : List ℕ) (c : ℕ) → goes_on ls c w ≡ true → (r : List ℕ) × (w ≡ ls ++ c ∷ r)
goes_behind ls w c e =
    let parts = and_parts (nat_lt (length ls) (length w)) (bytes_eq (take (length ls) w) ls && (get_or w (length ls) 0 == c)) e in
    let more = and_parts (bytes_eq (take (length ls) w) ls) (get_or w (length ls) 0 == c) parts.1 in
    let within : length ls < length w = ltb-true (length ls) (length w) parts.0 in
    let front : take (length ls) w ≡ ls = (bytes_eq-Decides (take (length ls) w) ls).0 more.0 in
    let letter : get_or w (length ls) 0 ≡ c = eqb-true (get_or w (length ls) 0) c more.1 in (
      drop (suc (length ls)) w,
      sym (split_at (length ls) w) ∙ ap (λ x. x ++ drop (length ls) w) front
          ∙ ap (λ x. ls ++ x) (drop-cons w (length ls) 0 within ∙ ap (λ x. x ∷ drop (suc (length ls)) w) letter),
    )

behind_goes : (ls r : List ℕ) (c : ℕ) → goes_on ls c (ls ++ c ∷ r) ≡ true
behind_goes ls r c =
    and_from (nat_lt (length ls) (length (ls ++ c ∷ r))) (bytes_eq (take (length ls) (ls ++ c ∷ r)) ls && (get_or (ls ++ c ∷ r) (length ls) 0 == c))
    (lt-ltb (length ls) (length (ls ++ c ∷ r)) (omega (arith, length-append ls (c ∷ r))))
    (and_from (bytes_eq (take (length ls) (ls ++ c ∷ r)) ls) (get_or (ls ++ c ∷ r) (length ls) 0 == c)
    ((bytes_eq-Decides (take (length ls) (ls ++ c ∷ r)) ls).1 (take-append_seam ls (c ∷ r)))
    (eq-eqb (get_or (ls ++ c ∷ r) (length ls) 0) c (get_or-append_seam ls c r 0)))

-- ---- the word that is found

seek_none : {N : Type 0} (ls : List ℕ) (c i : ℕ) (ws : List (Word N)) → seek ls c i ws ≡ None → (j : ℕ) (w : Word N) → slice_get ws j ≡ Some w → goes_on ls c w.text ≡ true → ⊥
seek_none ls c i [] e j w at g = cc
seek_none {N} ls c i (x ∷ ws) e j w at g = go j (goes_on ls c x.text) refl e at (seek_none ls c (i + 1) ws)
  where
    is_head : Some x ≡ Some w → x ≡ w
    is_head e = cc

    go : (j : ℕ) (q : Bool) → goes_on ls c x.text ≡ q → (if q then Some (spelled_as ls i x) else seek ls c (i + 1) ws) ≡ None → slice_get (x ∷ ws) j ≡ Some w
        → (seek ls c (i + 1) ws ≡ None → (j : ℕ) (w : Word N) → slice_get ws j ≡ Some w → goes_on ls c w.text ≡ true → ⊥) → ⊥
    go j true k e at f = cc
    go zero false k e at f = both_ways (goes_on ls c x.text) k (subst (λ (y : Word N). goes_on ls c y.text ≡ true) (sym (is_head at)) g)
    go (suc j) false k e at f = f e j w at g

-- where it stands
record Found {N : Type 0} (ls : List ℕ) (c i : ℕ) (ws : List (Word N)) (q : Spelled N) : Type 0 where
  pub place : ℕ
  pub the_word : Word N
  pub at : slice_get ws place ≡ Some the_word
  pub goes : goes_on ls c the_word.text ≡ true
  pub is : q ≡ spelled_as ls (i + place) the_word

seek_some : {N : Type 0} (ls : List ℕ) (c i : ℕ) (ws : List (Word N)) (q : Spelled N) → seek ls c i ws ≡ Some q → Found ls c i ws q
seek_some ls c i [] q e = cc
seek_some {N} ls c i (x ∷ ws) q e = go (goes_on ls c x.text) refl e (seek_some ls c (i + 1) ws q)
  where
    is_first : Some (spelled_as ls i x) ≡ Some q → q ≡ spelled_as ls i x
    is_first e = cc

    go : (t : Bool) → goes_on ls c x.text ≡ t → (if t then Some (spelled_as ls i x) else seek ls c (i + 1) ws) ≡ Some q → (seek ls c (i + 1) ws ≡ Some q → Found ls c (i + 1) ws q) → Found ls c i (x ∷ ws) q
    go true k e f = let place : i ≡ i + 0 = omega arith in record { place = 0; the_word = x; at = refl; goes = k; is = is_first e ∙ ap (λ n. spelled_as ls n x) place }
    go false k e f =
        let r = f e in
        let place : (i + 1) + r.place ≡ i + suc r.place = omega arith in
        record { place = suc r.place; the_word = r.the_word; at = r.at; goes = r.goes; is = r.is ∙ ap (λ n. spelled_as ls n r.the_word) place }

-- ---- words of a table that are apart

apart_all : {N : Type 0} (t : List ℕ) (ws : List (Word N)) → is_apart t ws ≡ true → (j : ℕ) (w : Word N) → slice_get ws j ≡ Some w → (begins t w.text || begins w.text t) ≡ false
apart_all t [] h j w at = cc
apart_all {N} t (x ∷ ws) h zero w at =
    let same : x ≡ w = is_head at in
    subst (λ (y : Word N). (begins t y.text || begins y.text t) ≡ false) same
    (not-true (begins t x.text || begins x.text t) (and_parts (not (begins t x.text || begins x.text t)) (is_apart t ws) h).0)
  where
    is_head : Some x ≡ Some w → x ≡ w
    is_head e = cc
apart_all t (x ∷ ws) h (suc j) w at = apart_all t ws (and_parts (not (begins t x.text || begins x.text t)) (is_apart t ws) h).1 j w at

written_at : {N : Type 0} (ws : List (Word N)) → are_apart ws ≡ true → (j : ℕ) (w : Word N) → slice_get ws j ≡ Some w → is_written w.text ≡ true
written_at [] h j w at = cc
written_at {N} (x ∷ ws) h zero w at =
    let same : x ≡ w = is_head at in
    subst (λ (y : Word N). is_written y.text ≡ true) same (and_parts (is_written x.text) (is_apart x.text ws && are_apart ws) h).0
  where
    is_head : Some x ≡ Some w → x ≡ w
    is_head e = cc
written_at (x ∷ ws) h (suc j) w at =
    written_at ws (and_parts (is_apart x.text ws) (are_apart ws) (and_parts (is_written x.text) (is_apart x.text ws && are_apart ws) h).1).1 j w at

-- a word that begins another is that word
one_place : {N : Type 0} (ws : List (Word N)) → are_apart ws ≡ true → (i j : ℕ) (u w : Word N) → slice_get ws i ≡ Some u → slice_get ws j ≡ Some w → begins u.text w.text ≡ true → i ≡ j
one_place [] h i j u w at to e = cc
one_place {N} (x ∷ ws) h i j u w at to e =
    let parts = and_parts (is_apart x.text ws) (are_apart ws) (and_parts (is_written x.text) (is_apart x.text ws && are_apart ws) h).1 in
    go i j at to parts.0 (one_place ws parts.1)
  where
    is_head : (y : Word N) → Some x ≡ Some y → x ≡ y
    is_head y e = cc

    go : (i j : ℕ) → slice_get (x ∷ ws) i ≡ Some u → slice_get (x ∷ ws) j ≡ Some w → is_apart x.text ws ≡ true
        → ((i j : ℕ) (u w : Word N) → slice_get ws i ≡ Some u → slice_get ws j ≡ Some w → begins u.text w.text ≡ true → i ≡ j) → i ≡ j
    go zero zero at to a f = refl
    go zero (suc j) at to a f =
        absurd (both_ways (begins x.text w.text || begins w.text x.text) (apart_all x.text ws a j w to)
        (or_left (begins x.text w.text) (begins w.text x.text) (subst (λ (y : Word N). begins y.text w.text ≡ true) (sym (is_head u at)) e)))
    go (suc i) zero at to a f =
        absurd (both_ways (begins x.text u.text || begins u.text x.text) (apart_all x.text ws a i u at)
        (or_right (begins x.text u.text) (begins u.text x.text) (subst (λ (y : Word N). begins u.text y.text ≡ true) (sym (is_head w to)) e)))
    go (suc i) (suc j) at to a f = ap suc (f i j u w at to e)

-- ---- the letters of a table

-- no word is read whole by these letters
abbrev IsOpen : {N : Type 0} → List (Word N) → List ℕ → Type 0
IsOpen {N} ws ls = (j : ℕ) (w : Word N) → slice_get ws j ≡ Some w → (r : List ℕ) → ls ≡ w.text ++ r → ⊥

no_text : (t r : List ℕ) → is_written t ≡ true → [] ≡ t ++ r → ⊥
no_text [] r h e = cc
no_text (c ∷ t) r h e = cc

nothing_open : {N : Type 0} (ws : List (Word N)) → are_apart ws ≡ true → IsOpen ws []
nothing_open ws fine j w at r e = no_text w.text r (written_at ws fine j w at) e

letters_open : {N : Type 0} (ws : List (Word N)) → are_apart ws ≡ true → (s : Letters) → IsOpen ws (letters_of ws s)
letters_open {N} ws fine s j w at r e = go (slice_get ws s.word) refl e
  where
    some_is : (u : Word N) → Some w ≡ Some u → w ≡ u
    some_is u e = cc

    inside : (u : Word N) (t : Bool) → slice_get ws s.word ≡ Some u → nat_lt s.count (length u.text) ≡ t → (if t then take s.count u.text else []) ≡ w.text ++ r → ⊥
    inside u false to k e = nothing_open ws fine j w at r e
    inside u true to k e =
        let fewer : s.count < length u.text = ltb-true s.count (length u.text) k in
        let whole : u.text ≡ w.text ++ (r ++ drop s.count u.text) =
        sym (split_at s.count u.text) ∙ ap (λ x. x ++ drop s.count u.text) e ∙ append_assoc w.text r (drop s.count u.text) in
        let place : j ≡ s.word = one_place ws fine j s.word w u at to (subst (λ x. begins w.text x ≡ true) (sym whole) (begins_more w.text (r ++ drop s.count u.text))) in
        let same : w ≡ u = some_is u (sym at ∙ ap (slice_get ws) place ∙ to) in
        let long : length w.text ≡ length u.text = ap (λ (y : Word N). length y.text) same in
        let count : length (take s.count u.text) ≡ length w.text + length r = ap length e ∙ length-append w.text r in
        let short : length (take s.count u.text) ≡ s.count = length-take-le s.count u.text (omega (arith, fewer)) in
        omega (arith, fewer, long, count, short)

    go : (o : Option (Word N)) → slice_get ws s.word ≡ o → front_of o s.count ≡ w.text ++ r → ⊥
    go None to e = nothing_open ws fine j w at r e
    go (Some u) to e = inside u (nat_lt s.count (length u.text)) to refl e

-- one letter more of a word
front_more : {N : Type 0} (u : Word N) (ls r : List ℕ) (c : ℕ) → u.text ≡ ls ++ c ∷ r → (length u.text == (length ls + 1)) ≡ false → front_of (Some u) (length ls + 1) ≡ ls ++ c ∷ []
front_more u ls r c e f =
    let count : length u.text ≡ length ls + length (c ∷ r) = ap length e ∙ length-append ls (c ∷ r) in
    let differ = eqb-false (length u.text) (length ls + 1) f in
    rw (lt-ltb (length ls + 1) (length u.text) (omega (arith, count, differ)))
    (ap (take (length ls + 1)) e ∙ take-append-add ls (c ∷ r) 1)

-- ---- what may follow, by the next letter

module _ {N : Type 0} (ws : List (Word N)) (fine : are_apart ws ≡ true) where
  module _ (ls : List ℕ) (opens : IsOpen ws ls) (v : N) (K : List ℕ → Type 0) where
    read_on : (c : ℕ) (b : List ℕ) (j : ℕ) (w : Word N) → slice_get ws j ≡ Some w → word w.text K (ls ++ c ∷ b) → (r : List ℕ) × (w.text ≡ ls ++ c ∷ r) × word r K b
    read_on c b j w at h = elim (behind_word w.text (ls ++ c ∷ []) b K (subst (word w.text K) (sym (append_assoc ls (c ∷ []) b)) h)) [
      | inl z ↦ (z.0, z.1 ∙ append_assoc ls (c ∷ []) z.0, z.2)
      | inr z ↦ (let less = one_less w.text ls z.1 c z.0 z.2 in absurd (opens j w at less.0 less.1))
    ]

    pub goes_from : (c : ℕ) (b : List ℕ) → stands ws v K (ls ++ c ∷ b) ↔ Holds (seek ls c 0 ws) (λ q. left ws q v K b)
    goes_from c b = go (seek ls c 0 ws) refl
      where
        some_is : (u w : Word N) → Some u ≡ Some w → w ≡ u
        some_is u w e = cc

        none : seek ls c 0 ws ≡ None → stands ws v K (ls ++ c ∷ b) → ⊥
        none e h =
            let r = read_on c b h.0 h.1 h.2 h.4 in
            seek_none ls c 0 ws e h.0 h.1 h.2 (subst (λ t. goes_on ls c t ≡ true) (sym r.1) (behind_goes ls r.0 c))

        more : (q : Letters) → letters_of ws q ≡ ls ++ c ∷ [] → stands ws v K (ls ++ c ∷ b) ↔ stands ws v K (letters_of ws q ++ b)
        more q e =
            let same : ls ++ c ∷ b ≡ letters_of ws q ++ b = sym (append_assoc ls (c ∷ []) b) ∙ ap (λ x. x ++ b) (sym e) in
            (subst (stands ws v K) same, subst (stands ws v K) (sym same))

        more_letters : (q : Letters) (f : Found ls c 0 ws (More q)) → letters_of ws q ≡ ls ++ c ∷ []
        more_letters q f = at_length (length f.the_word.text == (length ls + 1)) refl f.is
          where
            place_is : (i : ℕ) → (let x : Spelled N = More q in x ≡ More (record { word = i; count = length ls + 1 })) → q ≡ record { word = i; count = length ls + 1 }
            place_is i e = cc

            at_length : (t : Bool) → (length f.the_word.text == (length ls + 1)) ≡ t
                → More q ≡ (if t then Whole f.the_word.value else More (record { word = 0 + f.place; count = length ls + 1 })) → letters_of ws q ≡ ls ++ c ∷ []
            at_length true k e = cc
            at_length false k e =
                let text = goes_behind ls f.the_word.text c f.goes in
                let place : 0 + f.place ≡ f.place = omega arith in
                ap (letters_of ws) (place_is (0 + f.place) e) ∙ ap (λ o. front_of o (length ls + 1)) (ap (slice_get ws) place ∙ f.at)
                ∙ front_more f.the_word ls text.0 c text.1 k

        whole_text : (n : N) (f : Found ls c 0 ws (Whole n)) → (f.the_word.text ≡ ls ++ c ∷ []) × (n ≡ f.the_word.value)
        whole_text n f = at_length (length f.the_word.text == (length ls + 1)) refl f.is
          where
            value_is : (m : N) → (let x : Spelled N = Whole n in x ≡ Whole m) → n ≡ m
            value_is m e = cc

            none_left : (r : List ℕ) → length r ≡ 0 → r ≡ []
            none_left [] e = refl
            none_left (x ∷ r) e = absurd (omega (arith, e))

            at_length : (t : Bool) → (length f.the_word.text == (length ls + 1)) ≡ t
                → Whole n ≡ (if t then Whole f.the_word.value else More (record { word = 0 + f.place; count = length ls + 1 })) → (f.the_word.text ≡ ls ++ c ∷ []) × (n ≡ f.the_word.value)
            at_length false k e = cc
            at_length true k e =
                let text = goes_behind ls f.the_word.text c f.goes in
                let count : length f.the_word.text ≡ length ls + length (c ∷ text.0) = ap length text.1 ∙ length-append ls (c ∷ text.0) in
                let long = eqb-true (length f.the_word.text) (length ls + 1) k in
                (text.1 ∙ ap (λ r. ls ++ c ∷ r) (none_left text.0 (omega (arith, count, long))), value_is f.the_word.value e)

        whole : (n : N) → Found ls c 0 ws (Whole n) → stands ws v K (ls ++ c ∷ b) ↔ ((v ≡ n) × K b)
        whole n f = (forth, aback)
          where
            is : (f.the_word.text ≡ ls ++ c ∷ []) × (n ≡ f.the_word.value)
            is = whole_text n f

            forth : stands ws v K (ls ++ c ∷ b) → (v ≡ n) × K b
            forth h =
                let r = read_on c b h.0 h.1 h.2 h.4 in
                let text : h.1.text ≡ f.the_word.text ++ r.0 = r.1 ∙ sym (append_assoc ls (c ∷ []) r.0) ∙ ap (λ x. x ++ r.0) (sym is.0) in
                let place : f.place ≡ h.0 = one_place ws fine f.place h.0 f.the_word h.1 f.at h.2 (subst (λ x. begins f.the_word.text x ≡ true) (sym text) (begins_more f.the_word.text r.0)) in
                let same : h.1 ≡ f.the_word = some_is f.the_word h.1 (sym f.at ∙ ap (slice_get ws) place ∙ h.2) in
                (h.3 ∙ ap (λ (x : Word N). x.value) same ∙ sym is.1, rest_is r.0 (shorter r.0 text same) r.2)
              where
                rest_is : (r : List ℕ) → length r ≡ 0 → word r K b → K b
                rest_is [] e h = h
                rest_is (x ∷ r) e h = absurd (omega (arith, e))

                shorter : (r : List ℕ) → h.1.text ≡ f.the_word.text ++ r → h.1 ≡ f.the_word → length r ≡ 0
                shorter r e same =
                    let count : length h.1.text ≡ length f.the_word.text + length r = ap length e ∙ length-append f.the_word.text r in
                    let long : length h.1.text ≡ length f.the_word.text = ap (λ (x : Word N). length x.text) same in
                    omega (arith, count, long)

            aback : (v ≡ n) × K b → stands ws v K (ls ++ c ∷ b)
            aback h = (
              f.place,
              f.the_word,
              f.at,
              h.0 ∙ is.1,
              subst (λ t. word t K (ls ++ c ∷ b)) (sym is.0) (subst (word (ls ++ c ∷ []) K) (append_assoc ls (c ∷ []) b) (word_on (ls ++ c ∷ []) K b h.1)),
            )

        go : (o : Option (Spelled N)) → seek ls c 0 ws ≡ o → stands ws v K (ls ++ c ∷ b) ↔ Holds o (λ q. left ws q v K b)
        go None e = never (none e) (λ h. h)
        go (Some (More q)) e = more q (more_letters q (seek_some ls c 0 ws (More q) e))
        go (Some (Whole n)) e = whole n (seek_some ls c 0 ws (Whole n) e)

    -- no word is whole there
    pub no_end : stands ws v K ls → ⊥
    no_end h = elim (behind_word h.1.text ls [] K (subst (word h.1.text K) (sym (append-nil ls)) h.4)) [
      | inl z ↦ too_long z.0 z.1 z.2
      | inr z ↦ opens h.0 h.1 h.2 (z.0 ∷ z.1) z.2
    ]
      where
        too_long : (r : List ℕ) → h.1.text ≡ ls ++ r → word r K [] → ⊥
        too_long [] e k = opens h.0 h.1 h.2 [] (sym (append-nil ls) ∙ sym e ∙ sym (append-nil h.1.text))
        too_long (x ∷ r) e k = k

  pub first_law : (v : N) (K : List ℕ → Type 0) (c : ℕ) (b : List ℕ) → stands ws v K (c ∷ b) ↔ Holds (seek [] c 0 ws) (λ q. left ws q v K b)
  first_law v K c b = goes_from [] (nothing_open ws fine) v K c b

  pub spell_law : (s : Letters) (v : N) (K : List ℕ → Type 0) (c : ℕ) (b : List ℕ) → stands ws v K (letters_of ws s ++ c ∷ b) ↔ Holds (spell ws s c) (λ q. left ws q v K b)
  spell_law s v K c b = goes_from (letters_of ws s) (letters_open ws fine s) v K c b

  pub spell_ends : (s : Letters) (v : N) (K : List ℕ → Type 0) → stands ws v K (letters_of ws s ++ []) → ⊥
  spell_ends s v K h = no_end (letters_of ws s) (letters_open ws fine s) v K (subst (stands ws v K) (append-nil (letters_of ws s)) h)

  pub first_ends : (v : N) (K : List ℕ → Type 0) → stands ws v K [] → ⊥
  first_ends v K h = no_end [] (nothing_open ws fine) v K h

  -- letters go on to a word
  abbrev Finished : (N → List ℕ → Type 0) → (N → List ℕ) → List ℕ → Type 0
  Finished K b ls = (v : N) × (x : List ℕ) × (are_bytes x ≡ true) × stands ws v (K v) (ls ++ (x ++ b v))

  pub spell_alive : (u : Word N) → slice_get ws 0 ≡ Some u → (K : N → List ℕ → Type 0) (b : N → List ℕ) → ((v : N) → K v (b v)) → (s : Letters) → Finished K b (letters_of ws s)
  spell_alive u first K b h s = go (slice_get ws s.word) refl
    where
      bytes : (t : List ℕ) → is_written t ≡ true → are_bytes t ≡ true
      bytes [] e = refl
      bytes (c ∷ t) e = e

      anew : Finished K b []
      anew = (u.value, u.text, bytes u.text (written_at ws fine 0 u first), (0, u, first, refl, word_on u.text (K u.value) (b u.value) (h u.value)))

      on : (w : Word N) → slice_get ws s.word ≡ Some w → (t : Bool) → Finished K b (if t then take s.count w.text else [])
      on w at false = anew
      on w at true = (
        w.value,
        drop s.count w.text,
        are_bytes-drop s.count w.text (bytes w.text (written_at ws fine s.word w at)),
        (s.word, w, at, refl, subst (word w.text (K w.value)) (ap (λ x. x ++ b w.value) (sym (split_at s.count w.text)) ∙ append_assoc (take s.count w.text) (drop s.count w.text) (b w.value)) (word_on w.text (K w.value) (b w.value) (h w.value))),
      )

      go : (o : Option (Word N)) → slice_get ws s.word ≡ o → Finished K b (front_of o s.count)
      go None at = anew
      go (Some w) at = on w at (nat_lt s.count (length w.text))
