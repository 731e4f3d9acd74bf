-- Each array has the shape of a small one, which is not after it; and from four cells on each size has every shape.
use Rattle.std.proofs.Common.{◌≡◌, ◌≢◌, ◌+◌, ◌-◌, ◌<◌, ◌≤◌, ℕ, zero, suc, min, Bool, true, false, cond, is_some, Option, Some, None, List, ◌⊎◌, inl, inr, ⊎_elim, refl, ap, sym, ◌∙◌, arith}
use Rattle.std.specs.List.{AllByRecursion}
use Rattle.std.proofs.lemmas.Bool.{lt-ltb, cases_lt}
use Rattle.std.proofs.lemmas.List.{get_or_past}
use Rattle.fault_core.specs.declared.cells.Places.{Places}
use Rattle.fault_core.specs.Cells.{cell}
use Rattle.cell_machine.specs.declared.pair.Pair.{Pair}
use Rattle.cell_machine.specs.declared.pair.Side.TheVariants.{A, V}
use Rattle.cell_machine.specs.Pairs.{pair_of}
use Rattle.dynamic_core.specs.Primitive.{DynamicSense, DynamicPrimitive, has_aggressor}
use Rattle.dynamic_core.specs.Detecting.{FitsDynAgg, FitsDyn}
use Rattle.dynamic_prover.specs.declared.own_cells.OwnCells.{OwnCells}
use Rattle.dynamic_prover.specs.declared.shape.Shape.{Shape}
use Rattle.dynamic_prover.specs.declared.spot.Spot.{Spot}
use Rattle.dynamic_prover.specs.inner.Own.{own_as}
use Rattle.dynamic_prover.specs.inner.Shapes.{is_some_cell, shape_as, shape_of}
use Rattle.dynamic_prover.specs.inner.Spots.{spot_as, one_cell_spots, two_cell_spots, spots_of, shape_at, content_from}
use Rattle.pair_tracker.proofs.Sides.{not_less}
use Rattle.dynamic_prover.proofs.Sized.{beside_of, own_start}
use Rattle.dynamic_prover.proofs.Ordered.{PlacesBelow, length-content, cell-content, victim_bit, aggressor_bit}
use Rattle.dynamic_prover.proofs.Listed.{IsIn, in_at, all_in}

-- 1 where any cell is there
abbrev number : Bool → ℕ
number some = cond some 1 0

number_is : (k : ℕ) → number (is_some_cell k) ≡ min k 1
number_is zero = omega arith
number_is (suc k) = omega arith

at_most_one : (b : Bool) → number b ≤ 1
at_most_one true = omega arith
at_most_one false = omega arith

cell_number : (b : Bool) → is_some_cell (number b) ≡ b
cell_number true = refl
cell_number false = refl

-- of two places, the lower one first, the aggressor's and the victim's
abbrev agg_of : Bool → ℕ → ℕ → Option ℕ
agg_of below x y = Some (cond below x y)

abbrev vic_of : Bool → ℕ → ℕ → ℕ
vic_of below x y = cond below y x

-- shapes by what lies below and above
abbrev two_shape : Bool → Bool → Bool → Shape
two_shape below l h = shape_as l (cond below A V) (Some (cond below V A)) h

shape_two : (below : Bool) (x y n : ℕ) → x < y → shape_of (agg_of below x y) (vic_of below x y) n ≡ two_shape below (is_some_cell x) (is_some_cell (n - 1 - y))
shape_two true x y n lt =
    ap (λ b. cond b (shape_as (is_some_cell x) A (Some V) (is_some_cell (n - 1 - y))) (shape_as (is_some_cell y) V (Some A) (is_some_cell (n - 1 - x)))) (lt-ltb x y lt)
shape_two false x y n lt =
    ap (λ b. cond b (shape_as (is_some_cell y) A (Some V) (is_some_cell (n - 1 - x))) (shape_as (is_some_cell x) V (Some A) (is_some_cell (n - 1 - y)))) (not_less y x (omega arith))

-- the small arrays, each with its place in the list
abbrev two_spot : Bool → Bool → Bool → Spot
two_spot below l h = spot_as (2 + number l + number h) (agg_of below (number l) (1 + number l)) (vic_of below (number l) (1 + number l))

two_is : (below l h : Bool) → IsIn (two_spot below l h) two_cell_spots × (two_shape below l h ≡ shape_at (two_spot below l h))
two_is true false false = (in_at two_cell_spots 0 (two_spot true false false) refl, refl)
two_is false false false = (in_at two_cell_spots 1 (two_spot false false false) refl, refl)
two_is true false true = (in_at two_cell_spots 2 (two_spot true false true) refl, refl)
two_is false false true = (in_at two_cell_spots 3 (two_spot false false true) refl, refl)
two_is true true false = (in_at two_cell_spots 4 (two_spot true true false) refl, refl)
two_is false true false = (in_at two_cell_spots 5 (two_spot false true false) refl, refl)
two_is true true true = (in_at two_cell_spots 6 (two_spot true true true) refl, refl)
two_is false true true = (in_at two_cell_spots 7 (two_spot false true true) refl, refl)

all_two : (P : Spot → Type 0) → ((below l h : Bool) → P (two_spot below l h)) → AllByRecursion P two_cell_spots
all_two P f =
    (f true false false, (f false false false, (f true false true, (f false false true, (f true true false, (f false true false, (f true true true, (f false true true, tt))))))))

abbrev one_spot : Bool → Bool → Spot
one_spot l h = spot_as (1 + number l + number h) None (number l)

one_is : (l h : Bool) → 1 ≤ number l + number h → IsIn (one_spot l h) one_cell_spots × (shape_as l V None h ≡ shape_at (one_spot l h))
one_is false false m = absurd (omega arith)
one_is false true m = (in_at one_cell_spots 0 (one_spot false true) refl, refl)
one_is true false m = (in_at one_cell_spots 1 (one_spot true false) refl, refl)
one_is true true m = (in_at one_cell_spots 2 (one_spot true true) refl, refl)

all_one : (P : Spot → Type 0) → ((l h : Bool) → 1 ≤ number l + number h → P (one_spot l h)) → AllByRecursion P one_cell_spots
all_one P f = (f false true (omega arith), (f true false (omega arith), (f true true (omega arith), tt)))

-- a small array of the same shape, which is less or has the same places
pub record IsSpotFor (two : Bool) (agg : Option ℕ) (vic n : ℕ) (s : Spot) : Type 0 where
  pub listed : IsIn s (spots_of two)
  pub shape : shape_of agg vic n ≡ shape_at s
  pub order : (s.size < n) ⊎ ((s.size ≡ n) × (s.agg ≡ agg) × (s.vic ≡ vic))

ends_are : (a b x y n : ℕ) → a ≤ x → b ≤ n - 1 - y → x < y → y < n → n ≤ 2 + a + b → (2 + a + b ≡ n) × (a ≡ x) × (1 + a ≡ y)
ends_are a b x y n p q lt within m = (omega arith, omega arith, omega arith)

spot_two : (below : Bool) (x y n : ℕ) → x < y → y < n → (s : Spot) × IsSpotFor true (agg_of below x y) (vic_of below x y) n s
spot_two below x y n lt within =
    let l : Bool = is_some_cell x in
    let h : Bool = is_some_cell (n - 1 - y) in
    let p = number_is x in
    let q = number_is (n - 1 - y) in
    let is = two_is below l h in (
      two_spot below l h,
      record {
        listed = is.0;
        shape = shape_two below x y n lt ∙ is.1;
        order = ⊎_elim (λ (less : 2 + number l + number h < n). inl less)
            (λ (m : n ≤ 2 + number l + number h).
            let t = ends_are (number l) (number h) x y n (omega arith) (omega arith) lt within m in
            inr (t.0, ap (λ i. agg_of below i (1 + number l)) t.1 ∙ ap (agg_of below x) t.2, ap (λ i. vic_of below i (1 + number l)) t.1 ∙ ap (vic_of below x) t.2))
            (cases_lt (2 + number l + number h) n);
      },
    )

spot_alone : (v n : ℕ) → v < n → 2 ≤ n → (s : Spot) × IsSpotFor false None v n s
spot_alone v n within some =
    let l : Bool = is_some_cell v in
    let h : Bool = is_some_cell (n - 1 - v) in
    let p = number_is v in
    let q = number_is (n - 1 - v) in
    let is = one_is l h (omega arith) in (
      one_spot l h,
      record {
        listed = is.0;
        shape = is.1;
        order = ⊎_elim (λ (less : 1 + number l + number h < n). inl less) (λ (m : n ≤ 1 + number l + number h). inr (omega arith, refl, omega arith)) (cases_lt (1 + number l + number h) n);
      },
    )

-- the small array of any array
pub spot_for : (p : DynamicPrimitive) (at : Places) (n : ℕ) → FitsDyn p at n → 2 ≤ n → (s : Spot) × IsSpotFor (has_aggressor p) at.agg at.vic n s
spot_for p at n fits some = go p.agg at.agg fits.aggressor
  where
    go : (agg : Option DynamicSense) (place : Option ℕ) → FitsDynAgg agg place at.vic n → (s : Spot) × IsSpotFor (is_some agg) place at.vic n s
    go None None f = spot_alone at.vic n fits.victim some
    go None (Some a) f = absurd f
    go (Some sense) None f = absurd f
    go (Some sense) (Some a) f =
        ⊎_elim (λ (lt : a < at.vic). spot_two true a at.vic n lt fits.victim)
        (λ (le : at.vic ≤ a). let ne : a ≢ at.vic = f.1 in spot_two false at.vic a n (omega arith) f.0) (cases_lt a at.vic)

-- places that fit a primitive with or without an aggressor
abbrev pub FitsIn : Bool → Option ℕ → ℕ → ℕ → Type 0
FitsIn true None vic n = ⊥
FitsIn true (Some a) vic n = (vic < n) × (a < n) × (a ≢ vic)
FitsIn false None vic n = vic < n
FitsIn false (Some a) vic n = ⊥

pub fits_in : (p : DynamicPrimitive) (agg : Option ℕ) (vic n : ℕ) → FitsIn (has_aggressor p) agg vic n → FitsDyn p (record { agg = agg; vic = vic }) n
fits_in p agg vic n f = let t = go p.agg agg f in record { victim = t.0; aggressor = t.1 }
  where
    go : (sense : Option DynamicSense) (agg : Option ℕ) → FitsIn (is_some sense) agg vic n → (vic < n) × FitsDynAgg sense agg vic n
    go None None f = (f, tt)
    go None (Some a) f = absurd f
    go (Some sense) None f = absurd f
    go (Some sense) (Some a) f = (f.0, (f.1, f.2))

pub places_below : (two : Bool) (agg : Option ℕ) (vic n : ℕ) → FitsIn two agg vic n → PlacesBelow agg vic n
places_below true None vic n f = absurd f
places_below true (Some a) vic n f = (f.1, f.0)
places_below false None vic n f = f
places_below false (Some a) vic n f = absurd f

-- a small array fits, and has two to four cells
pub record IsSmall (two : Bool) (s : Spot) : Type 0 where
  pub some : 2 ≤ s.size
  pub few : s.size ≤ 4
  pub fits : FitsIn two s.agg s.vic s.size

fits_two : (below : Bool) (x y n : ℕ) → x < y → y < n → FitsIn true (agg_of below x y) (vic_of below x y) n
fits_two true x y n lt within = (within, omega arith, omega arith)
fits_two false x y n lt within = (omega arith, within, omega arith)

small_two : (below l h : Bool) → IsSmall true (two_spot below l h)
small_two below l h =
    let p = at_most_one l in
    let q = at_most_one h in
    record { some = omega arith; few = omega arith; fits = fits_two below (number l) (1 + number l) (2 + number l + number h) (omega arith) (omega arith) }

small_one : (l h : Bool) → 1 ≤ number l + number h → IsSmall false (one_spot l h)
small_one l h m = let p = at_most_one l in let q = at_most_one h in record { some = omega arith; few = omega arith; fits = omega arith }

pub is_small : (two : Bool) (s : Spot) → IsIn s (spots_of two) → IsSmall two s
is_small true s h = all_in (IsSmall true) two_cell_spots s (all_two (IsSmall true) small_two) h
is_small false s h = all_in (IsSmall false) one_cell_spots s (all_one (IsSmall false) small_one) h

-- an array of this size with the shape of a small one
pub record IsLarge (two : Bool) (s : Spot) (k : ℕ) : Type 0 where
  pub agg : Option ℕ
  pub vic : ℕ
  pub fits : FitsIn two agg vic k
  pub shape : shape_of agg vic k ≡ shape_at s

-- the instance's cells are at the ends, but for one cell where any lies beside them
large_two : (below l h : Bool) (k : ℕ) → 4 ≤ k → IsLarge true (two_spot below l h) k
large_two below l h k more =
    let p = at_most_one l in
    let q = at_most_one h in
    let y : ℕ = k - 1 - number h in
    let rest : k - 1 - (k - 1 - number h) ≡ number h = omega arith in
    record {
      agg = agg_of below (number l) y;
      vic = vic_of below (number l) y;
      fits = fits_two below (number l) y k (omega arith) (omega arith);
      shape = shape_two below (number l) y k (omega arith) ∙ ap (λ b. two_shape below b (is_some_cell (k - 1 - y))) (cell_number l)
          ∙ ap (λ i. two_shape below l (is_some_cell i)) rest ∙ ap (two_shape below l) (cell_number h) ∙ (two_is below l h).1;
    }

some_there : (k : ℕ) → 0 < k → is_some_cell k ≡ true
some_there zero h = absurd (omega arith)
some_there (suc k) h = refl

-- the victim is the second of an array, or the first or the last
large_one : (k : ℕ) → 4 ≤ k → (l h : Bool) → 1 ≤ number l + number h → IsLarge false (one_spot l h) k
large_one k more false false m = absurd (omega arith)
large_one k more false true m = record { agg = None; vic = 0; fits = omega arith; shape = ap (shape_as false V None) (some_there (k - 1 - 0) (omega arith)) }
large_one k more true true m = record { agg = None; vic = 1; fits = omega arith; shape = ap (shape_as true V None) (some_there (k - 1 - 1) (omega arith)) }
large_one k more true false m =
    let none : k - 1 - (k - 1) ≡ 0 = omega arith in
    record {
      agg = None;
      vic = k - 1;
      fits = omega arith;
      shape = ap (λ b. shape_as b V None (is_some_cell (k - 1 - (k - 1)))) (some_there (k - 1) (omega arith)) ∙ ap (λ i. shape_as true V None (is_some_cell i)) none;
    }

pub has_large : (two : Bool) (s : Spot) (k : ℕ) → IsIn s (spots_of two) → 4 ≤ k → IsLarge two s k
has_large true s k h more = all_in (λ s. IsLarge true s k) two_cell_spots s (all_two (λ s. IsLarge true s k) (λ below l h. large_two below l h k more)) h
has_large false s k h more = all_in (λ s. IsLarge false s k) one_cell_spots s (all_one (λ s. IsLarge false s k) (large_one k more)) h

-- what is seen at the start of an array whose other cells hold 0
pub start_seen : (two : Bool) (agg : Option ℕ) (vic n : ℕ) (q : Pair) → FitsIn two agg vic n → (two ≡ false → q.a ≡ false)
    → own_start agg vic n (content_from agg vic q 0 n) ≡ own_as q false
start_seen two agg vic n q f off =
    let make : Bool → Bool → OwnCells = λ x y. own_as (pair_of x y) false in
    let cells : List Bool = content_from agg vic q 0 n in
    let t = go two agg f off in
    ap (λ x. make x (cell cells vic)) t.0 ∙ ap (make q.a) t.1
  where
    go : (two : Bool) (agg : Option ℕ) → FitsIn two agg vic n → (two ≡ false → q.a ≡ false)
        → (cell (content_from agg vic q 0 n) (beside_of agg n) ≡ q.a) × (cell (content_from agg vic q 0 n) vic ≡ q.v)
    go true None f off = absurd f
    go true (Some a) f off = (
      cell-content (Some a) vic q 0 n a a f.1 (omega arith) ∙ aggressor_bit a vic q f.2,
      cell-content (Some a) vic q 0 n vic vic f.0 (omega arith) ∙ victim_bit (Some a) vic q,
    )
    go false (Some a) f off = absurd f
    go false None f off = (
      get_or_past (content_from None vic q 0 n) n false (omega (arith, length-content None vic q 0 n)) ∙ sym (off refl),
      cell-content None vic q 0 n vic vic f (omega arith) ∙ victim_bit None vic q,
    )
