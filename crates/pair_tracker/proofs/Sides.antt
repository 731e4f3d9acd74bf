-- The addresses of an element, each once.
use Rattle.std.proofs.Common.{◌≡◌, ◌≢◌, ◌+◌, ◌<◌, ◌≤◌, ℕ, zero, suc, Bool, true, false, ◌||◌, eqb, nat_lt, List, [], ◌∷◌, ◌++◌, reverse, refl, ap, sym, subst, ◌∙◌, ⊎_elim, arith}
use Rattle.std.proofs.lemmas.List.{reverse-append}
use Rattle.std.proofs.lemmas.Bool.{ne_eqb}
use Rattle.std.proofs.lemmas.Bool.Decides.{eqb_tells, nat_tests}
use Rattle.std.specs.List.{range_with_len}
use Rattle.march_core.specs.Visits.{Direction, Upward, Downward, addresses}

abbrev pub contains : ℕ → List ℕ → Bool
contains y [] = false
contains y (x ∷ xs) = eqb y x || contains y xs

abbrev pub Distinct : List ℕ → Type 0
Distinct [] = Unit {0}
Distinct (x ∷ xs) = (contains x xs ≡ false) × Distinct xs

abbrev pub AllBelow : ℕ → List ℕ → Type 0
AllBelow n [] = Unit {0}
AllBelow n (x ∷ xs) = (x < n) × AllBelow n xs

-- numbers that follow one another
in_range : (k m y : ℕ) → k ≤ y → y < k + m → contains y (range_with_len k m) ≡ true
in_range k zero y low high = absurd (omega arith)
in_range k (suc m) y low high =
    ⊎_elim
    (λ (h : (eqb y k ≡ true) × (y ≡ k)). rw h.0 refl)
    (λ (h : (eqb y k ≡ false) × (y ≢ k)). let ne : y ≢ k = h.1 in rw h.0 (in_range (k + 1) m y (omega arith) (omega arith)))
    (eqb_tells y k)

not_in_range : (k m y : ℕ) → y < k → contains y (range_with_len k m) ≡ false
not_in_range k zero y low = refl
not_in_range k (suc m) y low =
    let ne : y ≢ k = omega arith in
    rw (ne_eqb y k ne) (not_in_range (k + 1) m y (omega arith))

distinct_range : (k m : ℕ) → Distinct (range_with_len k m)
distinct_range k zero = tt
distinct_range k (suc m) = (not_in_range (k + 1) m k (omega arith), distinct_range (k + 1) m)

below_range : (k m n : ℕ) → k + m ≤ n → AllBelow n (range_with_len k m)
below_range k zero n h = tt
below_range k (suc m) n h = (omega arith, below_range (k + 1) m n (omega arith))

pub not_less : (a v : ℕ) → v ≤ a → nat_lt a v ≡ false
not_less a v h = grind (arith, nat_tests)

-- the same lists in reverse
contains-append : (y : ℕ) (xs ys : List ℕ) → contains y (xs ++ ys) ≡ contains y xs || contains y ys
contains-append y [] ys = refl
contains-append y (x ∷ xs) ys = ap (λ b. eqb y x || b) (contains-append y xs ys) ∙ or_assoc (eqb y x) (contains y xs) (contains y ys)
  where
    or_assoc : (a b c : Bool) → a || (b || c) ≡ (a || b) || c
    or_assoc true b c = refl
    or_assoc false b c = refl

pub contains-reverse : (y : ℕ) (xs : List ℕ) → contains y (reverse xs) ≡ contains y xs
contains-reverse y [] = refl
contains-reverse y (x ∷ xs) =
    ap (contains y) (reverse-append (x ∷ []) xs) ∙ contains-append y (reverse xs) (x ∷ []) ∙ ap (λ b. b || (eqb y x || false)) (contains-reverse y xs)
    ∙ swap_or (contains y xs) (eqb y x)
  where
    swap_or : (a b : Bool) → a || (b || false) ≡ b || a
    swap_or true true = refl
    swap_or true false = refl
    swap_or false true = refl
    swap_or false false = refl

distinct_last : (xs : List ℕ) (x : ℕ) → Distinct xs → contains x xs ≡ false → Distinct (xs ++ x ∷ [])
distinct_last [] x d out = (refl, tt)
distinct_last (z ∷ zs) x d out =
    (contains-append z zs (x ∷ []) ∙ not_last (contains z zs) (eqb z x) (eqb x z) (contains x zs) d.0 (same_test z x) out, distinct_last zs x d.1 (not_rest (eqb x z) (contains x zs) out))
  where
    not_last : (p q r s : Bool) → p ≡ false → q ≡ r → r || s ≡ false → p || (q || false) ≡ false
    not_last p q true s hp same h = cc
    not_last p q false s hp same h = rw (hp, same) refl

    not_rest : (r s : Bool) → r || s ≡ false → s ≡ false
    not_rest true s h = cc
    not_rest false s h = h

    same_test : (m n : ℕ) → eqb m n ≡ eqb n m
    same_test m n = grind (arith, nat_tests)

distinct_reverse : (xs : List ℕ) → Distinct xs → Distinct (reverse xs)
distinct_reverse [] d = tt
distinct_reverse (x ∷ xs) d =
    subst Distinct (sym (reverse-append (x ∷ []) xs)) (distinct_last (reverse xs) x (distinct_reverse xs d.1) (contains-reverse x xs ∙ d.0))

below-append : (n : ℕ) (xs ys : List ℕ) → AllBelow n xs → AllBelow n ys → AllBelow n (xs ++ ys)
below-append n [] ys h k = k
below-append n (x ∷ xs) ys h k = (h.0, below-append n xs ys h.1 k)

below_reverse : (n : ℕ) (xs : List ℕ) → AllBelow n xs → AllBelow n (reverse xs)
below_reverse n [] h = tt
below_reverse n (x ∷ xs) h = subst (AllBelow n) (sym (reverse-append (x ∷ []) xs)) (below-append n (reverse xs) (x ∷ []) (below_reverse n xs h.1) (h.0, tt))

-- the addresses of an element
pub addresses_distinct : (d : Direction) (n : ℕ) → Distinct (addresses d n)
unfolding addresses
addresses_distinct Upward n = distinct_range 0 n
addresses_distinct Downward n = distinct_reverse (range_with_len 0 n) (distinct_range 0 n)

pub addresses_below : (d : Direction) (n : ℕ) → AllBelow n (addresses d n)
unfolding addresses
addresses_below Upward n = below_range 0 n n (omega arith)
addresses_below Downward n = below_reverse n (range_with_len 0 n) (below_range 0 n n (omega arith))

pub addresses_all : (d : Direction) (n y : ℕ) → y < n → contains y (addresses d n) ≡ true
unfolding addresses
addresses_all Upward n y h = in_range 0 n y (omega arith) (omega arith)
addresses_all Downward n y h = contains-reverse y (range_with_len 0 n) ∙ in_range 0 n y (omega arith) (omega arith)
