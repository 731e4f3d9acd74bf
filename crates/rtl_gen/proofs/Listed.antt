-- The tables of a march and a scrambling, one entry after another.
use Rattle.std.proofs.Common.{◌≡◌, ℕ, zero, suc, ◌+◌, ◌<◌, ◌≤◌, inl, inr, true, false, List, [], ◌∷◌, ◌++◌, length, map, take, get_or, refl, sym, ap, ◌∙◌, arith}
use Rattle.std.proofs.lemmas.List.{take_more, map-append}
use Rattle.std.proofs.lemmas.Bool.Decides.{leb_tells}
use Rattle.std.specs.List.{AllByRecursion}
use Rattle.march_core.specs.March.{MarchElement, pause, sweep, ops_of, IsElement, element_at, is_pause_at, order_at, ops_at}
use Rattle.scrambler.specs.Scrambling.{Scrambling}
use Rattle.rtl_layout.specs.declared.row.Row.{Row}
use Rattle.rtl_layout.specs.Plan.{Element}
use Rattle.rtl_gen.specs.inner.Planned.{element_of, row_of, rows_from}

-- ---- the elements of a march

pub at_pause : (march : List MarchElement) (i : ℕ) → is_pause_at march i ≡ true → pause ≡ element_at march i
at_pause [] i h = cc
at_pause (pause ∷ march) zero h = refl
at_pause (sweep order ops ∷ march) zero h = cc
at_pause (x ∷ march) (suc i) h = at_pause march i h

pub at_sweep : (march : List MarchElement) (i : ℕ) → i < length march → is_pause_at march i ≡ false → sweep (order_at march i) (ops_at march i) ≡ element_at march i
at_sweep [] i l h = absurd (omega arith)
at_sweep (pause ∷ march) zero l h = cc
at_sweep (sweep order ops ∷ march) zero l h = refl
at_sweep (x ∷ march) (suc i) l h = at_sweep march i (omega arith) h

few_in : (x : MarchElement) → IsElement x → length (ops_of x) ≤ 16
few_in pause h = omega arith
few_in (sweep order ops) h = elim h [ inl e ↦ cc | inr l ↦ l.1 ]

pub ops_few : (march : List MarchElement) → AllByRecursion IsElement march → (k : ℕ) → length (ops_at march k) ≤ 16
ops_few [] a k = omega arith
ops_few (x ∷ march) a zero = few_in x a.0
ops_few (x ∷ march) a (suc k) = ops_few march a.1 k

ops_past : (march : List MarchElement) (k : ℕ) → length march ≤ k → length (ops_at march k) ≡ 0
ops_past [] k h = refl
ops_past (x ∷ march) zero h = absurd (omega arith)
ops_past (x ∷ march) (suc k) h = ops_past march k (omega arith)

pub all_below : (march : List MarchElement) (most i : ℕ) → length march ≤ i → ((k : ℕ) → k < i → length (ops_at march k) ≤ most) → (k : ℕ) → length (ops_at march k) ≤ most
all_below march most i h below k =
    elim (leb_tells (length march) k) [
      | inl p ↦ let past = ops_past march k p.1 in omega arith
      | inr p ↦ let inside = p.1 in below k (omega arith)
    ]

at_get : (march : List MarchElement) (i : ℕ) → get_or march i pause ≡ element_at march i
at_get [] i = refl
at_get (x ∷ march) zero = refl
at_get (x ∷ march) (suc i) = at_get march i

pub element_more : (march : List MarchElement) (i : ℕ) (xs ys : List Element) (y : Element) → i < length march → xs ≡ map element_of (take i march) → ys ≡ xs ++ y ∷ [] → y ≡ element_of (element_at march i)
    → ys ≡ map element_of (take (i + 1) march)
element_more march i xs ys y h inv grown is =
    grown ∙ ap (λ l. l ++ y ∷ []) inv ∙ ap (λ z. map element_of (take i march) ++ z ∷ []) is
    ∙ sym (ap (map element_of) (take_more march i pause h ∙ ap (λ x. take i march ++ x ∷ []) (at_get march i)) ∙ map-append element_of (take i march) (element_at march i ∷ []))

-- ---- the rows of a scrambling

pub length-rows : (m : Scrambling) (i n : ℕ) → length (rows_from m i n) ≡ n
length-rows m i zero = refl
length-rows m i (suc n) = ap suc (length-rows m (i + 1) n)

pub rows_more : (m : Scrambling) (i n : ℕ) → rows_from m i (n + 1) ≡ rows_from m i n ++ row_of m (i + n) ∷ []
rows_more m i zero = let here : i ≡ i + 0 = omega arith in ap (λ k. row_of m k ∷ []) here
rows_more m i (suc n) =
    let up : suc n + 1 ≡ suc (n + 1) = omega arith in
    let on : i + 1 + n ≡ i + suc n = omega arith in
    ap (rows_from m i) up ∙ ap (λ l. row_of m i ∷ l) (rows_more m (i + 1) n) ∙ ap (λ k. row_of m i ∷ rows_from m (i + 1) n ++ row_of m k ∷ []) on

pub row_more : (m : Scrambling) (i : ℕ) (xs ys : List Row) (y : Row) → xs ≡ rows_from m 0 i → ys ≡ xs ++ y ∷ [] → y ≡ row_of m i → ys ≡ rows_from m 0 (i + 1)
row_more m i xs ys y inv grown is =
    let here : i ≡ 0 + i = omega arith in
    grown ∙ ap (λ l. l ++ y ∷ []) inv ∙ ap (λ z. rows_from m 0 i ++ z ∷ []) (is ∙ ap (row_of m) here) ∙ sym (rows_more m 0 i)
