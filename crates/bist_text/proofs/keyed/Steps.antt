-- Steps of the loops over what is left of a line.
use Rattle.bist_text.proofs.keyed.Common.{Bool, Class, List, None, Option, Read, Word, [], ap, arith, behind_of, by_letter, drop, drop-cons, false, front_of, gap_of, get_or, if◌then◌else◌, is_blank, key_from, later, length, length-drop, length_of, refl, spaced, spell, stuck, subst, suc, sym, take, take_all, took, true, word_of, ℕ, ◌+◌, ◌-◌, ◌<◌, ◌∙◌, ◌∷◌, ◌≡◌, ◌≤◌}
use Rattle.bist_text.specs.declared.keywords.Letters.{Letters}
use Rattle.bist_text.specs.declared.keywords.Spelled.{Spelled}

at_head : (b : List ℕ) (i : ℕ) → i < length b → drop i b ≡ get_or b i 0 ∷ drop (i + 1) b
at_head b i l = (let e : suc i ≡ i + 1 = omega arith in drop-cons b i 0 l ∙ ap (λ (k : ℕ). get_or b i 0 ∷ drop k b) e)

-- ---- blanks

blank_head : (c : ℕ) (b : List ℕ) (t : Bool) → is_blank c ≡ t → spaced (c ∷ b) ≡ (if t then spaced b else c ∷ b)
blank_head c b t e = ap (λ (t : Bool). if t then spaced b else c ∷ b) e

pub blank_on : (b x : List ℕ) (i : ℕ) → i < length b → is_blank (get_or b i 0) ≡ true → spaced (drop i b) ≡ x → spaced (drop (i + 1) b) ≡ x
blank_on b x i l e h = sym (ap spaced (at_head b i l) ∙ blank_head (get_or b i 0) (drop (i + 1) b) true e) ∙ h

pub blank_stop : (b x : List ℕ) (i : ℕ) → i < length b → is_blank (get_or b i 0) ≡ false → spaced (drop i b) ≡ x → drop i b ≡ x
blank_stop b x i l e h = at_head b i l ∙ sym (ap spaced (at_head b i l) ∙ blank_head (get_or b i 0) (drop (i + 1) b) false e) ∙ h

pub blank_end : (b x : List ℕ) (i : ℕ) → drop i b ≡ [] → spaced (drop i b) ≡ x → [] ≡ x
blank_end b x i e h = sym (ap spaced e) ∙ h

pub gap_took : (b x : List ℕ) → 1 ≤ length b → is_blank (get_or b 0 0) ≡ true → x ≡ spaced (take (length b - 1) (drop 1 b)) → gap_of b ≡ took tt x
gap_took [] x l e h = absurd (omega arith)
gap_took (c ∷ b) x l e h =
    ap (λ (t : Bool). if t then took tt (spaced b) else stuck (c ∷ b)) e
    ∙ ap (λ (y : List ℕ). took tt y) (sym (h ∙ ap spaced (take_all (length (c ∷ b) - 1) b (omega arith))))

-- ---- words

fit_head : (fits : Class) (i c : ℕ) (b : List ℕ) (t : Bool) → fits i c ≡ t → length_of fits i (c ∷ b) ≡ (if t then length_of fits (suc i) b + 1 else 0)
fit_head fits i c b t e = ap (λ (t : Bool). if t then length_of fits (suc i) b + 1 else 0) e

pub fit_on : (fits : Class) (b : List ℕ) (i n : ℕ) → i < length b → fits i (get_or b i 0) ≡ true → length_of fits i (drop i b) + i ≡ n → length_of fits (i + 1) (drop (i + 1) b) + (i + 1) ≡ n
fit_on fits b i n l e h =
    let here : length_of fits i (drop i b) ≡ length_of fits (suc i) (drop (i + 1) b) + 1 = ap (length_of fits i) (at_head b i l) ∙ fit_head fits i (get_or b i 0) (drop (i + 1) b) true e in
    let next : i + 1 ≡ suc i = omega arith in
    let same : length_of fits (i + 1) (drop (i + 1) b) ≡ length_of fits (suc i) (drop (i + 1) b) = ap (λ (k : ℕ). length_of fits k (drop (i + 1) b)) next in
    omega arith

pub fit_stop : (fits : Class) (b : List ℕ) (i n : ℕ) → i < length b → fits i (get_or b i 0) ≡ false → length_of fits i (drop i b) + i ≡ n → i ≡ n
fit_stop fits b i n l e h =
    let here : length_of fits i (drop i b) ≡ 0 = ap (length_of fits i) (at_head b i l) ∙ fit_head fits i (get_or b i 0) (drop (i + 1) b) false e in
    omega arith

pub fit_end : (fits : Class) (b : List ℕ) (i n : ℕ) → drop i b ≡ [] → length_of fits i (drop i b) + i ≡ n → i ≡ n
fit_end fits b i n e h = (let here : length_of fits i (drop i b) ≡ 0 = ap (length_of fits i) e in omega arith)

-- ---- a word, by its length

abbrev Cut : List ℕ → List ℕ → ℕ → List ℕ → Type 0
Cut x y n b = (x ≡ take n b) × (y ≡ drop n b)

front_is : (fits g : Class) (i : ℕ) (b : List ℕ) → ((n c : ℕ) → g n c ≡ fits (i + n) c) → Cut (front_of g b) (behind_of g b) (length_of fits i b) b
front_is fits g i [] f = (refl, refl)
front_is fits g i (c ∷ b) f = go (fits i c) refl (front_is fits (later g) (suc i) b (λ n d. f (suc n) d ∙ ap (λ (k : ℕ). fits k d) (omega arith)))
  where
    here : g 0 c ≡ fits i c
    here = f 0 c ∙ ap (λ (k : ℕ). fits k c) (omega arith)

    one_more : (n : ℕ) → Cut (front_of (later g) b) (behind_of (later g) b) n b → Cut (c ∷ front_of (later g) b) (behind_of (later g) b) (n + 1) (c ∷ b)
    one_more n h = (let e : n + 1 ≡ suc n = omega arith in rw e (ap (λ (x : List ℕ). c ∷ x) h.0, h.1))

    go : (t : Bool) → fits i c ≡ t → Cut (front_of (later g) b) (behind_of (later g) b) (length_of fits (suc i) b) b → Cut (front_of g (c ∷ b)) (behind_of g (c ∷ b)) (length_of fits i (c ∷ b)) (c ∷ b)
    go true e h =
        subst (λ (t : Bool). Cut (if t then c ∷ front_of (later g) b else []) (if t then behind_of (later g) b else c ∷ b) (length_of fits i (c ∷ b)) (c ∷ b)) (sym (here ∙ e))
        (subst (λ (t : Bool). Cut (c ∷ front_of (later g) b) (behind_of (later g) b) (if t then length_of fits (suc i) b + 1 else 0) (c ∷ b)) (sym e) (one_more (length_of fits (suc i) b) h))
    go false e h =
        subst (λ (t : Bool). Cut (if t then c ∷ front_of (later g) b else []) (if t then behind_of (later g) b else c ∷ b) (length_of fits i (c ∷ b)) (c ∷ b)) (sym (here ∙ e))
        (subst (λ (t : Bool). Cut [] (c ∷ b) (if t then length_of fits (suc i) b + 1 else 0) (c ∷ b)) (sym e) (refl, refl))

pub word_none : (fits : Class) (b : List ℕ) (n : ℕ) → n ≡ length_of fits 0 b → n ≡ 0 → word_of fits b ≡ stuck b
word_none fits [] n h z = refl
word_none fits (c ∷ b) n h z = go (fits 0 c) refl
  where
    go : (t : Bool) → fits 0 c ≡ t → word_of fits (c ∷ b) ≡ stuck (c ∷ b)
    go true e = (let k : length_of fits 0 (c ∷ b) ≡ length_of fits 1 b + 1 = fit_head fits 0 c b true e in absurd (omega arith))
    go false e = ap (λ (t : Bool). if t then took (c ∷ front_of (later fits) b) (behind_of (later fits) b) else stuck (c ∷ b)) e

pub word_some : (fits : Class) (b x y : List ℕ) (n : ℕ) → n ≡ length_of fits 0 b → (n ≡ 0 → ⊥) → x ≡ take n b → y ≡ take (length b - n) (drop n b) → word_of fits b ≡ took x y
word_some fits [] x y n h z p q = absurd (z h)
word_some fits (c ∷ b) x y n h z p q = go (fits 0 c) refl
  where
    cut : Cut (front_of fits (c ∷ b)) (behind_of fits (c ∷ b)) (length_of fits 0 (c ∷ b)) (c ∷ b)
    cut = front_is fits fits 0 (c ∷ b) (λ n d. ap (λ (k : ℕ). fits k d) (omega arith))

    go : (t : Bool) → fits 0 c ≡ t → word_of fits (c ∷ b) ≡ took x y
    go false e = absurd (z (h ∙ fit_head fits 0 c b false e))
    go true e =
        let front : front_of fits (c ∷ b) ≡ c ∷ front_of (later fits) b = ap (λ (t : Bool). if t then c ∷ front_of (later fits) b else []) e in
        let rest : behind_of fits (c ∷ b) ≡ behind_of (later fits) b = ap (λ (t : Bool). if t then behind_of (later fits) b else c ∷ b) e in
        let left : c ∷ front_of (later fits) b ≡ x = sym front ∙ cut.0 ∙ ap (λ (k : ℕ). take k (c ∷ b)) (sym h) ∙ sym p in
        let right : behind_of (later fits) b ≡ y = sym rest ∙ cut.1 ∙ ap (λ (k : ℕ). drop k (c ∷ b)) (sym h) ∙ sym (take_all (length (c ∷ b) - n) (drop n (c ∷ b)) (omega (arith, length-drop n (c ∷ b)))) ∙ sym q in
        ap (λ (t : Bool). if t then took (c ∷ front_of (later fits) b) (behind_of (later fits) b) else stuck (c ∷ b)) e ∙ ap (λ (w : List ℕ). took w (behind_of (later fits) b)) left
        ∙ ap (λ (w : List ℕ). took x w) right

-- ---- first words

pub rest_of : (b : List ℕ) (i : ℕ) → drop i b ≡ take (length b - i) (drop i b)
rest_of b i = sym (take_all (length b - i) (drop i b) (omega (arith, length-drop i b)))

pub key_read : {N : Type 0} (ws : List (Word N)) (q : Letters) (b : List ℕ) (i : ℕ) (o : Option (Spelled N)) (x : Read N) → i < length b → o ≡ spell ws q (get_or b i 0) → key_from ws q (drop i b) ≡ x → by_letter o (get_or b i 0) (drop (i + 1) b) (λ p. key_from ws p (drop (i + 1) b)) ≡ x
key_read ws q b i o x l e h = ap (λ o. by_letter o (get_or b i 0) (drop (i + 1) b) (λ p. key_from ws p (drop (i + 1) b))) e ∙ sym (ap (key_from ws q) (at_head b i l)) ∙ h

pub key_stuck : {N : Type 0} (ws : List (Word N)) (q : Letters) (b : List ℕ) (i : ℕ) (x : Read N) → i < length b → None ≡ spell ws q (get_or b i 0) → key_from ws q (drop i b) ≡ x → stuck (drop i b) ≡ x
key_stuck ws q b i x l e h = ap stuck (at_head b i l) ∙ key_read ws q b i None x l e h
