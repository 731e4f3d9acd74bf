-- An instance in a large array stands so in one of a cell less.
use Rattle.std.proofs.Common.{◌≡◌, ◌≢◌, ◌+◌, ◌-◌, ◌<◌, ◌≤◌, ℕ, zero, suc, Bool, Option, Some, None, List, [], ◌∷◌, length, map, get_or, refl, ap, sym, subst, ◌∙◌, inl, inr, ⊎_elim, arith}
use Rattle.std.specs.List.{AllByRecursion, remove}
use Rattle.std.proofs.lemmas.Bool.{ne_eqb, cases_lt}
use Rattle.std.proofs.lemmas.List.{length-map}
use Rattle.std.proofs.lemmas.List.Edits.{get_or-remove_below, get_or-remove_above}
use Rattle.std.proofs.Math.ListN.{get_or-map}
use Rattle.fault_core.specs.Cells.{cell}
use Rattle.sequence_faults.specs.declared.few.Spots.{Spots}
use Rattle.sequence_faults.specs.Primitive.{SequencePrimitive}
use Rattle.sequence_faults.specs.Stepping.{held_as, nothing}
use Rattle.sequence_faults.specs.Detection.{AreDifferent, FitsAt}
use Rattle.sequence_faults.specs.inner.Few.{few_as, seat_at, spots_at, few_at}
use Rattle.sequence_faults.proofs.Shrinking.{lower, IsIdle, IsBetween, Lowered, lower_below, lower_above}
use Rattle.sequence_faults.proofs.Seen.{place, IsSeat, IsElsewhere, Says, says}

pub all_on : {X Y : Type 0} (P : X → Type 0) (Q : Y → Type 0) (f : X → Y) → ((x : X) → P x → Q (f x)) → (xs : List X) → AllByRecursion P xs → AllByRecursion Q (map f xs)
all_on P Q f h [] all = tt
all_on P Q f h (x ∷ xs) all = (h x all.0, all_on P Q f h xs all.1)

all_back : {X Y : Type 0} (P : X → Type 0) (Q : Y → Type 0) (f : X → Y) → ((x : X) → Q (f x) → P x) → (xs : List X) → AllByRecursion Q (map f xs) → AllByRecursion P xs
all_back P Q f h [] all = tt
all_back P Q f h (x ∷ xs) all = (h x all.0, all_back P Q f h xs all.1)

all_both : {X : Type 0} (P Q : X → Type 0) (xs : List X) → AllByRecursion P xs → AllByRecursion Q xs → AllByRecursion (λ x. P x × Q x) xs
all_both P Q [] h k = tt
all_both P Q (x ∷ xs) h k = ((h.0, k.0), all_both P Q xs h.1 k.1)

-- ---- a large array has a cell that makes no difference

record Fresh (n : ℕ) (xs : List ℕ) : Type 0 where
  number : ℕ
  few : number ≤ n
  new : AllByRecursion (λ x. x ≢ number) xs

fresh : (n : ℕ) (xs : List ℕ) → length xs ≤ n → Fresh n xs
fresh n [] h = record { number = 0; few = omega arith; new = tt }
fresh zero (x ∷ xs) h = absurd (omega arith)
fresh (suc n) (x ∷ xs) h =
    let size = length-map xs (lower x) in
    let found : Fresh n (map (lower x) xs) = fresh n (map (lower x) xs) (omega arith) in
    let j : ℕ = found.number in
    let few : j ≤ n = found.few in
    ⊎_elim
    (λ (less : j < x). record { number = j; few = omega arith; new = (omega arith, all_back (λ y. y ≢ j) (λ y. y ≢ j) (lower x) (λ y k. under x j y less k) xs found.new) })
    (λ (more : x ≤ j). record { number = j + 1; few = omega arith; new = (omega arith, all_back (λ y. y ≢ j + 1) (λ y. y ≢ j) (lower x) (λ y k. over x j y more k) xs found.new) })
    (cases_lt j x)
  where
    under : (x j y : ℕ) → j < x → lower x y ≢ j → y ≢ j
    under x j y less k e = k (lower_below x y (omega arith) ∙ e)

    over : (x j y : ℕ) → x ≤ j → lower x y ≢ j → y ≢ j + 1
    over x j y more k e = k (lower_above x y (omega arith) ∙ back)
      where
        back : y - 1 ≡ j
        back = omega arith

off_at : (g : ℕ) (at : List ℕ) (i d : ℕ) → AllByRecursion (λ x. x ≢ g) at → d ≢ g → get_or at i d ≢ g
off_at g [] i d all off = off
off_at g (x ∷ xs) zero d all off = all.0
off_at g (x ∷ xs) (suc i) d all off = off_at g xs i d all.1 off

-- another cell that makes no difference
pub record Spare (n : ℕ) (at : List ℕ) : Type 0 where
  pub g : ℕ
  pub within : g + 1 < n
  pub free : AllByRecursion (λ x. x ≢ g) at
  pub idle : IsIdle (spots_at n at) g

-- an address that none of the three is
free_at : (n : ℕ) (at : List ℕ) (y : ℕ) → length at ≤ 3 → seat_at (spots_at n at) y ≡ None → AllByRecursion (λ x. x ≢ y) at
free_at n at y few e = go at few (subst (Says (spots_at n at) y) e (says (spots_at n at) y))
  where
    go : (at : List ℕ) → length at ≤ 3 → IsElsewhere (spots_at n at) y → AllByRecursion (λ x. x ≢ y) at
    go [] few out = tt
    go (a ∷ []) few out = (λ e. out.not_a (sym e), tt)
    go (a ∷ b ∷ []) few out = (λ e. out.not_a (sym e), (λ e. out.not_b (sym e), tt))
    go (a ∷ b ∷ c ∷ []) few out = (λ e. out.not_a (sym e), (λ e. out.not_b (sym e), (λ e. out.not_c (sym e), tt)))
    go (a ∷ b ∷ c ∷ d ∷ at) few out = absurd (omega arith)

none_at : (s : Spots) (y : ℕ) → y ≢ s.a → y ≢ s.b → y ≢ s.c → seat_at s y ≡ None
none_at s y a b c = rw (ne_eqb y s.a a, ne_eqb y s.b b, ne_eqb y s.c c) refl

-- of three cells or more besides the instance's one does
pub spare : (n : ℕ) (at : List ℕ) → length at ≤ 3 → length at + 3 ≤ n → Spare n at
spare n at few h = go (seat_at s (g + 1)) refl
  where
    found : Fresh (length at) (map (λ x. x - 1) at)
    found = let size = length-map at (λ x. x - 1) in fresh (length at) (map (λ x. x - 1) at) (omega arith)

    j : ℕ
    j = found.number

    g : ℕ
    g = j + 1

    s : Spots
    s = spots_at n at

    within : g + 1 < n
    within = let least : j ≤ length at = found.few in omega arith

    apart : (x : ℕ) → x - 1 ≢ j → x ≢ g
    apart x k e = k (omega arith)

    free : AllByRecursion (λ x. x ≢ g) at
    free = all_back (λ x. x ≢ g) (λ y. y ≢ j) (λ x. x - 1) apart at found.new

    here : seat_at s g ≡ None
    here =
        let inside : g + 1 < n = within in
        let out : (i d : ℕ) → g < d → get_or at i d ≢ g = λ i d k. off_at g at i d free (λ e. (let same : d ≡ g = e in absurd (omega arith))) in
        none_at s g (λ e. out 0 n (omega arith) (sym e)) (λ e. out 1 (n + 1) (omega arith) (sym e)) (λ e. out 2 (n + 2) (omega arith) (sym e))

    middle : (x y : ℕ) → seat_at s (g + 1) ≡ Some x → seat_at s j ≡ Some y → IsBetween s g
    middle x y above below = record {
      before = j;
      next = omega arith;
      i = y;
      j = x;
      below = below;
      above = above;
      apart = λ e.
          let up : IsSeat s (g + 1) x = subst (Says s (g + 1)) above (says s (g + 1)) in
          let down : IsSeat s j y = subst (Says s j) below (says s j) in
          let same : j ≡ g + 1 = down.is ∙ ap (place s) e ∙ sym up.is in
          omega arith;
    }

    next : (x : ℕ) → seat_at s (g + 1) ≡ Some x → (o : Option ℕ) → seat_at s j ≡ o → Spare n at
    next x above None below = record { g = j; within = (let inside : g + 1 < n = within in omega arith); free = free_at n at j few below; idle = inl here }
    next x above (Some y) below = record { g = g; within = within; free = free; idle = inr (middle x y above below) }

    go : (o : Option ℕ) → seat_at s (g + 1) ≡ o → Spare n at
    go None above = record { g = g; within = within; free = free; idle = inl above }
    go (Some x) above = next x above (seat_at s j) refl

-- ---- without one of them

lower_apart : (g x y : ℕ) → x ≢ g → y ≢ g → x ≢ y → lower g x ≢ lower g y
lower_apart g x y x0 y0 ne e =
    ⊎_elim
    (λ (h : g < x). let p = lower_above g x h in ⊎_elim (λ (k : g < y). let q = lower_above g y k in ne (omega arith)) (λ (k : y ≤ g). let q = lower_below g y k in ne (omega arith)) (cases_lt g y))
    (λ (h : x ≤ g). let p = lower_below g x h in ⊎_elim (λ (k : g < y). let q = lower_above g y k in ne (omega arith)) (λ (k : y ≤ g). let q = lower_below g y k in ne (omega arith)) (cases_lt g y))
    (cases_lt g x)

lower_within : (g m x : ℕ) → g < m → (x < suc m) × (x ≢ g) → lower g x < m
lower_within g m x h (within, x0) =
    ⊎_elim (λ (k : g < x). let p = lower_above g x k in omega arith) (λ (k : x ≤ g). let p = lower_below g x k in omega arith) (cases_lt g x)

lowered_different : (g : ℕ) (at : List ℕ) → AllByRecursion (λ x. x ≢ g) at → AreDifferent at → AreDifferent (map (lower g) at)
lowered_different g [] off different = tt
lowered_different g (x ∷ xs) off different = (
  all_on (λ y. (x ≢ y) × (y ≢ g)) (λ z. lower g x ≢ z) (lower g) (λ y k. lower_apart g x y off.0 k.1 k.0) xs (all_both (λ y. x ≢ y) (λ x. x ≢ g) xs different.0 off.1),
  lowered_different g xs off.1 different.1,
)

pub lowered_fits : (p : SequencePrimitive) (at : List ℕ) (m g : ℕ) → FitsAt p at (suc m) → g < m → AllByRecursion (λ x. x ≢ g) at → FitsAt p (map (lower g) at) m
lowered_fits p at m g fits h off = record {
  each = length-map at (lower g) ∙ fits.each;
  within = all_on (λ x. (x < suc m) × (x ≢ g)) (λ x. x < m) (lower g) (λ x k. lower_within g m x h k) at (all_both (λ x. x < suc m) (λ x. x ≢ g) at fits.within off);
  different = lowered_different g at off fits.different;
}

lower_at : (g : ℕ) (at : List ℕ) (i d e : ℕ) → g < d → e ≡ d - 1 → get_or (map (lower g) at) i e ≡ lower g (get_or at i d)
lower_at g at i d e h is = ap (get_or (map (lower g) at) i) (is ∙ sym (lower_above g d h)) ∙ get_or-map (lower g) at i d

pub lowered : (at : List ℕ) (m g : ℕ) → g < m → AllByRecursion (λ x. x ≢ g) at → IsIdle (spots_at (suc m) at) g → Lowered g (spots_at (suc m) at) (spots_at m (map (lower g) at))
lowered at m g h off idle = record {
  off_a = off_at g at 0 (suc m) off (omega arith);
  off_b = off_at g at 1 (suc m + 1) off (omega arith);
  off_c = off_at g at 2 (suc m + 2) off (omega arith);
  a_is = lower_at g at 0 (suc m) m (omega arith) (omega arith);
  b_is = lower_at g at 1 (suc m + 1) (m + 1) (omega arith) (omega arith);
  c_is = lower_at g at 2 (suc m + 2) (m + 2) (omega arith) (omega arith);
  size_is = refl;
  inside = h;
  idle = idle;
}

cell_lowered : (content : List Bool) (g x : ℕ) → g < length content → x ≢ g → cell (remove content g) (lower g x) ≡ cell content x
cell_lowered content g x h x0 =
    ⊎_elim
    (λ (above : g < x).
    let same : x - 1 + 1 ≡ x = omega arith in
    ap (cell (remove content g)) (lower_above g x above) ∙ get_or-remove_above content g _ (x - 1) (omega arith) h ∙ ap (cell content) same)
    (λ (below : x ≤ g). ap (cell (remove content g)) (lower_below g x below) ∙ get_or-remove_below content g _ x (omega arith) h)
    (cases_lt g x)

pub few_lowered : (s t : Spots) (content : List Bool) (g : ℕ) → g < length content → Lowered g s t → few_at s (held_as content nothing) ≡ few_at t (held_as (remove content g) nothing)
few_lowered s t content g h is =
    let same : (x z : ℕ) → x ≢ g → z ≡ lower g x → cell content x ≡ cell (remove content g) z = λ x z off e. sym (cell_lowered content g x h off) ∙ ap (cell (remove content g)) (sym e) in
    ap (λ x. few_as x (cell content s.b) (cell content s.c) nothing) (same s.a t.a is.off_a is.a_is)
    ∙ ap (λ y. few_as (cell (remove content g) t.a) y (cell content s.c) nothing) (same s.b t.b is.off_b is.b_is)
    ∙ ap (λ z. few_as (cell (remove content g) t.a) (cell (remove content g) t.b) z nothing) (same s.c t.c is.off_c is.c_is)
