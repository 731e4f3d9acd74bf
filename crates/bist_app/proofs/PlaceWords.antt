-- A text of two numbers, joined by a full stop, names one place.
use Rattle.bist_app.proofs.Common.{◌≡◌, ◌≢◌, ◌<◌, ◌^◌, ◌++◌, ◌∙◌, ℕ, List, [], ◌∷◌, Option, Some, None, refl, sym, ap, subst, arith, lit<, codes, decimal, get_or, length, append_assoc, IsNumber, MatchOption}
use Rattle.std.specs.Borrow.{Bor}
use Rattle.std.specs.Char.{digit_value}
use Rattle.std.specs.Str.Parse.{AllDigits}
use Rattle.std.proofs.lemmas.Fmt.{decimal_injective, decimal_is_IsNumeral}
use Rattle.std.proofs.lemmas.Str.Parse.{digit_at}
use Rattle.std.proofs.lemmas.Str.Pattern.{IsSplitOnceResult, split_after}
use Rattle.bist_app.specs.declared.benchfault_command.NamedPlace.{NamedPlace}
use Rattle.bist_app.specs.BenchFault.{IsPlaceWord, IsAggressorPlace}

below_64 : (n : ℕ) → n < 10 ^ 9 → n < 2 ^ 64
below_64 n h = let big : 10 ^ 9 < 2 ^ 64 = lit< tt in omega (arith, h, big)

digits : (n : ℕ) → n < 10 ^ 9 → AllDigits 10 (decimal n)
digits n h = (decimal_is_IsNumeral n (below_64 n h)).0.1

-- a full stop is no digit
no_digit : (z : ℕ) → digit_value z < 10 → 46 ≡ z → ⊥
no_digit z h is = let stop : 36 < 10 = subst (λ n. digit_value n < 10) (sym is) h in omega (arith, stop)

-- what stands before the first full stop, and after it
cut_one : (xs zs ys ws : List ℕ) → AllDigits 10 xs → AllDigits 10 zs → xs ++ (46 ∷ ys) ≡ zs ++ (46 ∷ ws) → (xs ≡ zs) × (ys ≡ ws)
cut_one [] [] ys ws h i e = let rest : ys ≡ ws = cc in (refl, rest)
cut_one [] (z ∷ zs) ys ws h i e = let is : 46 ≡ z = cc in absurd (no_digit z i.0 is)
cut_one (x ∷ xs) [] ys ws h i e = let is : 46 ≡ x = cc in absurd (no_digit x h.0 is)
cut_one (x ∷ xs) (z ∷ zs) ys ws h i e =
    let first : x ≡ z = cc in
    let rest : xs ++ (46 ∷ ys) ≡ zs ++ (46 ∷ ws) = cc in
    let both = cut_one xs zs ys ws h.1 i.1 rest in
    let front : x ∷ xs ≡ z ∷ zs = cc in
    (front, both.1)

-- the text of a full stop is its byte
stop_text : (word bit : List ℕ) → word ++ codes "." ++ bit ≡ word ++ (46 ∷ bit)
stop_text word bit = append_assoc word (codes ".") bit

stop : (p q : NamedPlace) → decimal p.word ++ codes "." ++ decimal p.bit ≡ decimal q.word ++ codes "." ++ decimal q.bit
    → decimal p.word ++ (46 ∷ decimal p.bit) ≡ decimal q.word ++ (46 ∷ decimal q.bit)
stop p q e = sym (stop_text (decimal p.word) (decimal p.bit)) ∙ e ∙ stop_text (decimal q.word) (decimal q.bit)

pub place_one : (text : List ℕ) (p q : NamedPlace) → IsPlaceWord text p → IsPlaceWord text q → p ≡ q
place_one text p q h i =
    let same : decimal p.word ++ (46 ∷ decimal p.bit) ≡ decimal q.word ++ (46 ∷ decimal q.bit) = stop p q (sym h.2 ∙ i.2) in
    let both = cut_one (decimal p.word) (decimal q.word) (decimal p.bit) (decimal q.bit) (digits p.word h.0) (digits q.word i.0) same in
    let words = decimal_injective p.word q.word (below_64 p.word h.0) (below_64 q.word i.0) both.0 in
    let bits = decimal_injective p.bit q.bit (below_64 p.bit h.1) (below_64 q.bit i.1) both.1 in
    λ j. record { word = words j; bit = bits j }

first_is : (x y : ℕ) (xs ys : List ℕ) → x ∷ xs ≡ y ∷ ys → x ≡ y
first_is x y xs ys e = cc

none_begins : (xs ys : List ℕ) → AllDigits 10 xs → xs ++ (46 ∷ ys) ≡ codes "none" → ⊥
none_begins [] ys h e = let is = first_is 46 110 ys (codes "one") e in omega (arith, is)
none_begins (x ∷ xs) ys h e =
    let is = first_is x 110 (xs ++ (46 ∷ ys)) (codes "one") e in
    let letter : 23 < 10 = subst (λ n. digit_value n < 10) is h.0 in
    omega (arith, letter)

-- `none` is no place
no_place : (text : List ℕ) (p : NamedPlace) → text ≡ codes "none" → IsPlaceWord text p → ⊥
no_place text p h i = none_begins (decimal p.word) (decimal p.bit) (digits p.word i.0) (sym (stop_text (decimal p.word) (decimal p.bit)) ∙ sym i.2 ∙ h)

pub aggressor_place_one : (text : List ℕ) (a b : Option NamedPlace) → IsAggressorPlace text a → IsAggressorPlace text b → a ≡ b
aggressor_place_one text None None h i = refl
aggressor_place_one text None (Some q) h i = absurd (no_place text q h i)
aggressor_place_one text (Some p) None h i = absurd (no_place text p i h)
aggressor_place_one text (Some p) (Some q) h i = ap Some (place_one text p q h i)

-- ---- a text that is split at its first full stop

not_stop : (n i : ℕ) → n < 10 ^ 9 → i < length (decimal n) → get_or (decimal n) i 0 ≢ 46
not_stop n i h below is = let range = digit_at (decimal n) i (digits n h) below in omega (arith, range.0, is)

-- the parts of a place's text are those of its split
pub split_place : (text : List ℕ) (r : Option (Bor (List ℕ) × Bor (List ℕ))) (p : NamedPlace) → IsSplitOnceResult 46 text r → IsPlaceWord text p
    → MatchOption r ⊥ (λ x. IsNumber x.0.now p.word × IsNumber x.1.now p.bit)
split_place text r p split h = by r (split_after 46 text (decimal p.word) (decimal p.bit) r split (lit< tt) (h.2 ∙ stop_text (decimal p.word) (decimal p.bit)) (λ i below. not_stop p.word i h.0 below))
  where
    by : (o : Option (Bor (List ℕ) × Bor (List ℕ))) → MatchOption o ⊥ (λ x. (x.0.now ≡ decimal p.word) × (x.1.now ≡ decimal p.bit))
        → MatchOption o ⊥ (λ x. IsNumber x.0.now p.word × IsNumber x.1.now p.bit)
    by None g = g
    by (Some x) g = ((h.0, g.0), (h.1, g.1))

-- ---- no place

pub rejected : (text : List ℕ) (r : Option NamedPlace) → r ≡ None → ((p : NamedPlace) → IsPlaceWord text p → ⊥)
    → MatchOption r ((p : NamedPlace) → IsPlaceWord text p → ⊥) (λ p. IsPlaceWord text p)
rejected text None is h = h
rejected text (Some p) is h = cc

pub none_found : (n : ℕ) → (let none : Option ℕ = None in none) ≡ Some n → ⊥
none_found n e = cc
