-- The order of lists of numbers, and the contents of the small arrays in it.
use Rattle.std.proofs.Common.{◌≡◌, ◌≢◌, ◌+◌, ◌<◌, ◌≤◌, ℕ, zero, suc, Bool, true, false, cond, ◌&&◌, nat_lt, eqb, Option, Some, None, List, [], ◌∷◌, ◌++◌, ◌⊎◌, inl, inr, ⊎_elim, length, take, drop, refl, ap, sym, subst, ◌∙◌, arith}
use Rattle.std.specs.List.{AllByRecursion}
use Rattle.std.proofs.Math.Nat.{eq-or-lt_of_le}
use Rattle.std.proofs.lemmas.Bool.{eq-eqb, ne_eqb, cases_eq}
use Rattle.std.proofs.lemmas.Bool.Decides.{nat_tests}
use Rattle.fault_core.specs.Cells.{cell}
use Rattle.cell_machine.specs.declared.pair.Pair.{Pair}
use Rattle.dynamic_prover.specs.Escapes.{digit_of, digits_of, IsInOrder}
use Rattle.dynamic_prover.specs.inner.Spots.{is_place, bit_at, content_from}

pub in_order_on : (xs ys zs : List ℕ) → IsInOrder xs ys → IsInOrder ys zs → IsInOrder xs zs
in_order_on [] ys zs h k = tt
in_order_on (x ∷ xs) [] zs h k = absurd h
in_order_on (x ∷ xs) (y ∷ ys) [] h k = absurd k
in_order_on (x ∷ xs) (y ∷ ys) (z ∷ zs) h k =
    ⊎_elim
    (λ (l : x < y). ⊎_elim (λ (m : y < z). inl (omega arith)) (λ (m : (y ≡ z) × IsInOrder ys zs). let e : y ≡ z = m.0 in inl (omega arith)) k)
    (λ (l : (x ≡ y) × IsInOrder xs ys).
    let d : x ≡ y = l.0 in
    ⊎_elim (λ (m : y < z). inl (omega arith)) (λ (m : (y ≡ z) × IsInOrder ys zs). let e : y ≡ z = m.0 in inr (omega arith, in_order_on xs ys zs l.1 m.1)) k)
    h

-- a test that one list is before another, at a number that both have
abbrev pub is_before : List ℕ → List ℕ → Bool
is_before [] ys = false
is_before (x ∷ xs) [] = false
is_before (x ∷ xs) (y ∷ ys) = cond (nat_lt x y) true (eqb x y && is_before xs ys)

-- it stays before, whatever stands behind
pub before_in_order : (xs ys us vs : List ℕ) → is_before xs ys ≡ true → IsInOrder (xs ++ us) (ys ++ vs)
before_in_order [] ys us vs e = cc
before_in_order (x ∷ xs) [] us vs e = cc
before_in_order (x ∷ xs) (y ∷ ys) us vs e = go (λ h. before_in_order xs ys us vs h) (nat_lt x y) refl (eqb x y) refl e
  where
    less : nat_lt x y ≡ true → x < y
    less t = grind (arith, nat_tests)

    same : eqb x y ≡ true → x ≡ y
    same t = grind (arith, nat_tests)

    go : (is_before xs ys ≡ true → IsInOrder (xs ++ us) (ys ++ vs)) → (b : Bool) → nat_lt x y ≡ b → (c : Bool) → eqb x y ≡ c → cond b true (c && is_before xs ys) ≡ true → (x < y) ⊎ ((x ≡ y) × IsInOrder (xs ++ us) (ys ++ vs))
    go rest true t c f h = inl (less t)
    go rest false t true f h = inr (same f, rest h)
    go rest false t false f h = cc

pub last_in_order : (v w : ℕ) → v ≤ w → IsInOrder (v ∷ []) (w ∷ [])
last_in_order v w h = ⊎_elim (λ (e : v ≡ w). inr (e, tt)) (λ (l : v < w). inl l) (eq-or-lt_of_le h)

-- contents of the small arrays
pub length-content : (agg : Option ℕ) (vic : ℕ) (pair : Pair) (x n : ℕ) → length (content_from agg vic pair x n) ≡ n
length-content agg vic pair x zero = refl
length-content agg vic pair x (suc n) = ap suc (length-content agg vic pair (x + 1) n)

pub cell-content : (agg : Option ℕ) (vic : ℕ) (pair : Pair) (x n i y : ℕ) → i < n → y ≡ x + i → cell (content_from agg vic pair x n) i ≡ bit_at agg vic pair y
cell-content agg vic pair x zero i y h e = absurd (omega arith)
cell-content agg vic pair x (suc n) zero y h e = let same : x ≡ y = omega arith in ap (bit_at agg vic pair) same
cell-content agg vic pair x (suc n) (suc i) y h e = cell-content agg vic pair (x + 1) n i y (omega arith) (omega arith)

pub take-content : (agg : Option ℕ) (vic : ℕ) (pair : Pair) (x n m : ℕ) → n ≤ m → take n (content_from agg vic pair x m) ≡ content_from agg vic pair x n
take-content agg vic pair x zero m h = refl
take-content agg vic pair x (suc n) zero h = absurd (omega arith)
take-content agg vic pair x (suc n) (suc m) h = ap (λ l. bit_at agg vic pair x ∷ l) (take-content agg vic pair (x + 1) n m (omega arith))

-- the contents of the instance's own cells, and of each other cell
pub victim_bit : (agg : Option ℕ) (vic : ℕ) (pair : Pair) → bit_at agg vic pair vic ≡ pair.v
victim_bit agg vic pair = ap (λ b. cond b pair.v (is_place agg vic && pair.a)) (eq-eqb vic vic refl)

pub aggressor_bit : (a vic : ℕ) (pair : Pair) → a ≢ vic → bit_at (Some a) vic pair a ≡ pair.a
aggressor_bit a vic pair ne =
    ap (λ b. cond b pair.v (is_place (Some a) a && pair.a)) (ne_eqb a vic ne) ∙ ap (λ b. b && pair.a) (eq-eqb a a refl)

-- the places of an instance are before a number
abbrev pub PlacesBelow : Option ℕ → ℕ → ℕ → Type 0
PlacesBelow None vic n = vic < n
PlacesBelow (Some a) vic n = (a < n) × (vic < n)

off_place : (agg : Option ℕ) (vic n x : ℕ) → PlacesBelow agg vic n → n ≤ x → is_place agg x ≡ false
off_place None vic n x h low = refl
off_place (Some a) vic n x h low = ne_eqb a x (λ e. let s : a < n = h.0 in absurd (omega arith))

below_victim : (agg : Option ℕ) (vic n : ℕ) → PlacesBelow agg vic n → vic < n
below_victim None vic n h = h
below_victim (Some a) vic n h = h.1

other_bit : (agg : Option ℕ) (vic n x : ℕ) (pair : Pair) → PlacesBelow agg vic n → n ≤ x → bit_at agg vic pair x ≡ false
other_bit agg vic n x pair h low =
    let within : vic < n = below_victim agg vic n h in
    ap (λ b. cond b pair.v (is_place agg x && pair.a)) (ne_eqb x vic (λ e. absurd (omega arith))) ∙ ap (λ b. b && pair.a) (off_place agg vic n x h low)

pub blank-content : (agg : Option ℕ) (vic : ℕ) (pair : Pair) (n : ℕ) → PlacesBelow agg vic n → (x k m : ℕ) → n ≤ x + k → AllByRecursion (λ b. b ≡ false) (drop k (content_from agg vic pair x m))
blank-content agg vic pair n h x zero zero low = tt
blank-content agg vic pair n h x (suc k) zero low = tt
blank-content agg vic pair n h x zero (suc m) low = (other_bit agg vic n x pair h (omega arith), blank-content agg vic pair n h (x + 1) zero m (omega arith))
blank-content agg vic pair n h x (suc k) (suc m) low = blank-content agg vic pair n h (x + 1) k m (omega arith)

-- where no cell holds less than in a small array, the content is not before
pub not_before : (agg : Option ℕ) (vic : ℕ) (pair : Pair) (x n : ℕ) (bs : List Bool) (v w : ℕ) → length bs ≡ n
    → ((i : ℕ) → i < n → digit_of (bit_at agg vic pair (x + i)) ≤ digit_of (cell bs i)) → v ≤ w
    → IsInOrder (digits_of (content_from agg vic pair x n) ++ v ∷ []) (digits_of bs ++ w ∷ [])
not_before agg vic pair x zero [] v w e h l = last_in_order v w l
not_before agg vic pair x zero (b ∷ bs) v w e h l = absurd (omega arith)
not_before agg vic pair x (suc n) [] v w e h l = absurd (omega arith)
not_before agg vic pair x (suc n) (b ∷ bs) v w e h l =
    let here : x + 0 ≡ x = omega arith in
    let first : digit_of (bit_at agg vic pair x) ≤ digit_of b = subst (λ y. digit_of (bit_at agg vic pair y) ≤ digit_of b) here (h 0 (omega arith)) in
    let rest = not_before agg vic pair (x + 1) n bs v w (omega arith)
    (λ i within. let next : x + suc i ≡ x + 1 + i = omega arith in subst (λ y. digit_of (bit_at agg vic pair y) ≤ digit_of (cell bs i)) next (h (suc i) (omega arith))) l in
    ⊎_elim (λ (s : digit_of (bit_at agg vic pair x) ≡ digit_of b). inr (s, rest)) (λ (s : digit_of (bit_at agg vic pair x) < digit_of b). inl s) (eq-or-lt_of_le first)

-- an array whose instance's cells hold these bits
pub no_less : (agg : Option ℕ) (vic : ℕ) (pair : Pair) (bs : List Bool) (x : ℕ) → cell bs vic ≡ pair.v → ((a : ℕ) → agg ≡ Some a → cell bs a ≡ pair.a)
    → digit_of (bit_at agg vic pair x) ≤ digit_of (cell bs x)
no_less agg vic pair bs x victim aggressor =
    ⊎_elim
    (λ (e : x ≡ vic).
    let same : bit_at agg vic pair x ≡ cell bs x = ap (bit_at agg vic pair) e ∙ victim_bit agg vic pair ∙ sym victim ∙ ap (cell bs) (sym e) in
    omega (arith, ap digit_of same))
    (λ (ne : x ≢ vic).
    let off : bit_at agg vic pair x ≡ (is_place agg x && pair.a) = ap (λ b. cond b pair.v (is_place agg x && pair.a)) (ne_eqb x vic ne) in
    subst (λ b. digit_of b ≤ digit_of (cell bs x)) (sym off) (other agg aggressor))
    (cases_eq x vic)
  where
    none : (b : Bool) → digit_of false ≤ digit_of b
    none b = omega arith

    other : (place : Option ℕ) → ((a : ℕ) → place ≡ Some a → cell bs a ≡ pair.a) → digit_of (is_place place x && pair.a) ≤ digit_of (cell bs x)
    other None holds = none (cell bs x)
    other (Some a) holds =
        ⊎_elim
        (λ (e : a ≡ x).
        let same : (is_place (Some a) x && pair.a) ≡ cell bs x = ap (λ b. b && pair.a) (eq-eqb a x e) ∙ sym (holds a refl) ∙ ap (cell bs) e in
        omega (arith, ap digit_of same))
        (λ (ne : a ≢ x). subst (λ b. digit_of (b && pair.a) ≤ digit_of (cell bs x)) (sym (ne_eqb a x ne)) (none (cell bs x)))
        (cases_eq a x)
