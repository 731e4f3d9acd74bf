-- What the search among the small arrays finds is the verdict for arrays of every size.
use Rattle.std.proofs.Common.{◌≡◌, ◌+◌, ◌<◌, ◌≤◌, ℕ, Bool, true, false, is_some, Option, Some, None, List, [], ◌∷◌, ◌++◌, ◌⊎◌, inl, inr, ⊎_elim, length, take, drop, refl, ap, sym, subst, ◌∙◌, arith}
use Rattle.std.specs.List.{AllByRecursion}
use Rattle.std.specs.Option.{IsSome}
use Rattle.std.proofs.lemmas.List.{get_or_past}
use Rattle.fault_core.specs.declared.cells.Places.{Places}
use Rattle.fault_core.specs.Cells.{cell}
use Rattle.march_core.specs.March.{MarchElement, IsMarch}
use Rattle.march_core.specs.Visits.{Direction, is_direction, directions_of}
use Rattle.march_core.specs.declared.visit.Miss.{Miss}
use Rattle.cell_machine.specs.declared.pair.Pair.{Pair}
use Rattle.cell_machine.specs.Seen.{pair_at}
use Rattle.dynamic_core.specs.Primitive.{DynamicSense, DynamicPrimitive, has_aggressor}
use Rattle.dynamic_core.specs.inner.Dynamic.{miss_of}
use Rattle.dynamic_core.specs.Detecting.{FitsDynAgg, FitsDyn, IsCaughtDyn, DetectsDynAt, DetectsDyn}
use Rattle.dynamic_core.specs.inner.Detecting.{ending_of}
use Rattle.dynamic_core.proofs.Differing.{missed}
use Rattle.dynamic_prover.specs.declared.own_cells.OwnCells.{OwnCells}
use Rattle.dynamic_prover.specs.declared.shape.Shape.{Shape}
use Rattle.dynamic_prover.specs.declared.spot.Spot.{Spot}
use Rattle.dynamic_prover.specs.declared.escape.DynEscape.{DynEscape}
use Rattle.dynamic_prover.specs.inner.Own.{own_as}
use Rattle.dynamic_prover.specs.inner.Shapes.{shape_of, end_in}
use Rattle.pair_tracker.specs.Ways.{ways_word, IsNotAfter}
use Rattle.dynamic_prover.specs.inner.Ways.{least_ways}
use Rattle.dynamic_prover.specs.Escapes.{DynArray, places_of_array, PassesDyn, address_number, digits_of, order_of_array, IsInOrder, array_of, LeastDyn, digit_of}
use Rattle.dynamic_prover.specs.Verdicts.{IsDynVerdict}
use Rattle.dynamic_prover.specs.declared.escape.DynVerdict.TheVariants.{Escape}
use Rattle.dynamic_prover.specs.inner.Spots.{spots_of, shape_at, content_from, Candidate, candidate_at, candidates_of, passes_by, IsMadeOf, NonePasses, IsFirstOf, bit_at}
use Rattle.dynamic_prover.proofs.Sized.{beside_of, own_start}
use Rattle.dynamic_prover.proofs.Greedy.{Foretells, foretold}
use Rattle.pair_tracker.proofs.Wording.{IsFitting, fitting_word, word_least}
use Rattle.dynamic_prover.proofs.Ordered.{in_order_on, before_in_order, length-content, take-content, blank-content, not_before, no_less}
use Rattle.dynamic_prover.proofs.Listed.{IsIn, all_in, in_split, in_middle, in_candidates, IsListed, listed, order_of, before_behind, start_listed, start_off}
use Rattle.dynamic_prover.proofs.Arrays.{IsSpotFor, spot_for, FitsIn, fits_in, places_below, IsSmall, is_small, IsLarge, has_large, start_seen}

-- the instance's cells at the start
abbrev pair_in : Option ℕ → ℕ → ℕ → List Bool → Pair
pair_in agg vic n content = pair_at content (beside_of agg n) vic

-- a candidate that shows an array
record Shown (p : DynamicPrimitive) (agg : Option ℕ) (vic n : ℕ) (content : List Bool) (c : Candidate) : Type 0 where
  listed : IsIn c (candidates_of (spots_of (has_aggressor p)))
  same_shape : shape_of agg vic n ≡ shape_at c.spot
  same_start : own_start agg vic n content ≡ own_as c.pair false
  order : (v w : ℕ) → v ≤ w → IsInOrder (order_of c ++ v ∷ []) (n ∷ address_number agg ∷ vic ∷ (digits_of content ++ w ∷ []))

beside_off : (p : DynamicPrimitive) (at : Places) (n : ℕ) (content : List Bool) → FitsDyn p at n → length content ≡ n → has_aggressor p ≡ false → cell content (beside_of at.agg n) ≡ false
beside_off p at n content fits size alone = go p.agg at.agg fits.aggressor alone
  where
    go : (agg : Option DynamicSense) (place : Option ℕ) → FitsDynAgg agg place at.vic n → is_some agg ≡ false → cell content (beside_of place n) ≡ false
    go None None f e = get_or_past content n false (omega (arith, size))
    go None (Some a) f e = absurd f
    go (Some sense) place f e = cc

shown_by : (p : DynamicPrimitive) (at : Places) (n : ℕ) (content : List Bool) → FitsDyn p at n → length content ≡ n → 2 ≤ n
    → (c : Candidate) × Shown p at.agg at.vic n content c
shown_by p at n content fits size some =
    let found = spot_for p at n fits some in
    let s : Spot = found.0 in
    let is : IsSpotFor (has_aggressor p) at.agg at.vic n s = found.1 in (
      candidate_at s q,
      record {
        listed = in_candidates (spots_of (has_aggressor p)) s q is.listed (start_listed (has_aggressor p) s q is.listed (λ alone. beside_off p at n content fits size alone));
        same_shape = is.shape;
        same_start = refl;
        order = λ v w le. ⊎_elim (λ (l : s.size < n). inl l)
            (λ (e : (s.size ≡ n) × (s.agg ≡ at.agg) × (s.vic ≡ at.vic)).
            inr (e.0, inr (ap address_number e.1, inr (e.2, contents s v w le e.0 e.1 e.2)))) is.order;
      },
    )
  where
    q : Pair
    q = pair_in at.agg at.vic n content

    holds : (a : ℕ) → at.agg ≡ Some a → cell content a ≡ q.a
    holds a e = ap (λ place. cell content (beside_of place n)) (sym e)

    no_less_at : (i : ℕ) → digit_of (bit_at at.agg at.vic q (0 + i)) ≤ digit_of (cell content i)
    no_less_at i =
        let here : i ≡ 0 + i = omega arith in
        subst (λ x. digit_of (bit_at at.agg at.vic q x) ≤ digit_of (cell content i)) here (no_less at.agg at.vic q content i refl holds)

    contents : (s : Spot) (v w : ℕ) → v ≤ w → s.size ≡ n → s.agg ≡ at.agg → s.vic ≡ at.vic
        → IsInOrder (digits_of (content_from s.agg s.vic q 0 s.size) ++ v ∷ []) (digits_of content ++ w ∷ [])
    contents s v w le size_is agg_is vic_is =
        let same : content_from s.agg s.vic q 0 s.size ≡ content_from at.agg at.vic q 0 n =
        ap (λ x. content_from s.agg s.vic q 0 x) size_is ∙ ap (λ x. content_from x s.vic q 0 n) agg_is ∙ ap (λ x. content_from at.agg x q 0 n) vic_is in
        subst (λ l. IsInOrder (digits_of l ++ v ∷ []) (digits_of content ++ w ∷ [])) (sym same)
        (not_before at.agg at.vic q 0 n content v w size (λ i h. no_less_at i) le)

-- the march foretells an array by its candidate
told_by : (march : List MarchElement) (p : DynamicPrimitive) (at : Places) (n : ℕ) (content : List Bool) (c : Candidate) → IsMarch march → FitsDyn p at n → length content ≡ n
    → shape_of at.agg at.vic n ≡ shape_at c.spot → own_start at.agg at.vic n content ≡ own_as c.pair false → Foretells march p at content (shape_at c.spot) (own_as c.pair false)
told_by march p at n content c is_march fits size shape start =
    subst (λ (s : Shape). Foretells march p at content s (own_as c.pair false)) shape
    (subst (λ (q : OwnCells). Foretells march p at content (shape_of at.agg at.vic n) q) start (foretold march p at n content is_march fits size))

caught_unless : (o : Option Miss) → ((IsSome o → ⊥) → ⊥) → IsSome o
caught_unless None h = absurd (h (λ (e : IsSome {T = Miss} None). cc))
caught_unless (Some m) h = refl

none_in : (march : List MarchElement) (p : DynamicPrimitive) (cs : List Candidate) (c : Candidate) → NonePasses (end_in p) march cs → IsIn c cs → passes_by (end_in p) march c ≡ true → ⊥
none_in march p cs c none h passes =
    let fails : passes_by (end_in p) march c ≡ false = all_in (λ d. passes_by (end_in p) march d ≡ false) cs c none h in cc

-- where no candidate passes, each array is caught
pub none_covered : (march : List MarchElement) (p : DynamicPrimitive) → IsMarch march → NonePasses (end_in p) march (candidates_of (spots_of (has_aggressor p))) → DetectsDyn march p
none_covered march p is_march none n some ds at content allowed fits size =
    let found = shown_by p at n content fits size some in
    let c : Candidate = found.0 in
    let is : Shown p at.agg at.vic n content c = found.1 in
    let told = told_by march p at n content c is_march fits size is.same_shape is.same_start in
    let told_miss = missed march ds p at content in
    told_miss.0 (caught_unless (miss_of (ending_of march ds p at content))
    (λ not. none_in march p (candidates_of (spots_of (has_aggressor p))) c none is.listed (told.only ds allowed (λ caught. not (told_miss.1 caught))).0))

-- the array of a candidate, with a direction word
abbrev made_array : Candidate → ℕ → DynArray
made_array c word = record { size = c.spot.size; agg = c.spot.agg; vic = c.spot.vic; content = content_from c.spot.agg c.spot.vic c.pair 0 c.spot.size; directions = word }

abbrev ways_of : List MarchElement → DynamicPrimitive → Candidate → List Direction
ways_of march p c = least_ways (end_in p (shape_at c.spot)) march (own_as c.pair false)

same_array : (march : List MarchElement) (p : DynamicPrimitive) (c : Candidate) (e : DynEscape) → IsMadeOf (end_in p) march p c e → c.spot.size ≤ 5
    → array_of e ≡ made_array c (ways_word 0 (ways_of march p c))
same_array march p c e made few =
    let make : ℕ → Option ℕ → ℕ → List Bool → ℕ → DynArray = λ size agg vic content word. record { size = size; agg = agg; vic = vic; content = content; directions = word } in
    ap (λ x. make x e.agg e.vic (take x e.content) e.directions) made.size
    ∙ ap (λ x. make c.spot.size x e.vic (take c.spot.size e.content) e.directions) made.agg
    ∙ ap (λ x. make c.spot.size c.spot.agg x (take c.spot.size e.content) e.directions) made.vic
    ∙ ap (λ x. make c.spot.size c.spot.agg c.spot.vic x e.directions) (ap (take c.spot.size) made.content ∙ take-content c.spot.agg c.spot.vic c.pair 0 c.spot.size 5 few)
    ∙ ap (make c.spot.size c.spot.agg c.spot.vic (content_from c.spot.agg c.spot.vic c.pair 0 c.spot.size)) made.directions

-- what is known of a candidate that can pass
record CanPass (march : List MarchElement) (p : DynamicPrimitive) (c : Candidate) : Type 0 where
  spot : IsIn c.spot (spots_of (has_aggressor p))
  small : IsSmall (has_aggressor p) c.spot
  off : has_aggressor p ≡ false → c.pair.a ≡ false
  passes : passes_by (end_in p) march c ≡ true

can_pass_of : (march : List MarchElement) (p : DynamicPrimitive) (c : Candidate) → IsIn c (candidates_of (spots_of (has_aggressor p))) → passes_by (end_in p) march c ≡ true → CanPass march p c
can_pass_of march p c h passes =
    let is : IsListed (spots_of (has_aggressor p)) c = listed (spots_of (has_aggressor p)) c h in
    record { spot = is.spot; small = is_small (has_aggressor p) c.spot is.spot; off = start_off (has_aggressor p) c.spot c.pair is.spot is.start; passes = passes }

-- an array of any size with its shape, whose other cells hold 0, passes in its least directions
passes_at : (march : List MarchElement) (p : DynamicPrimitive) (c : Candidate) → IsMarch march → CanPass march p c → (agg : Option ℕ) (vic n : ℕ) → FitsIn (has_aggressor p) agg vic n
    → shape_of agg vic n ≡ shape_at c.spot
    → (is_direction march (ways_of march p c) ≡ true) × (IsCaughtDyn march (ways_of march p c) p (record { agg = agg; vic = vic }) (content_from agg vic c.pair 0 n) → ⊥)
passes_at march p c is_march can agg vic n fits shape =
    (told_by march p (record { agg = agg; vic = vic }) n (content_from agg vic c.pair 0 n) c is_march (fits_in p agg vic n fits) (length-content agg vic c.pair 0 n) shape
    (start_seen (has_aggressor p) agg vic n c.pair fits can.off)).some can.passes

made_passes : (march : List MarchElement) (p : DynamicPrimitive) (c : Candidate) → IsMarch march → CanPass march p c → PassesDyn march p (made_array c (ways_word 0 (ways_of march p c)))
made_passes march p c is_march can =
    let t = passes_at march p c is_march can c.spot.agg c.spot.vic c.spot.size can.small.fits refl in
    let word : IsFitting march (ways_of march p c) = fitting_word march (ways_of march p c) is_march.elements_within t.0 in
    record {
      array = record {
        some = can.small.some;
        places = fits_in p c.spot.agg c.spot.vic c.spot.size can.small.fits;
        each_cell = length-content c.spot.agg c.spot.vic c.pair 0 c.spot.size;
        is_word = word.is_word;
        directions = word.fits;
      };
      passes = λ caught. t.1 (subst (λ ds. IsCaughtDyn march ds p (record { agg = c.spot.agg; vic = c.spot.vic }) (content_from c.spot.agg c.spot.vic c.pair 0 c.spot.size)) word.stands caught);
    }

-- no array that passes is less than the first candidate that can
made_least : (march : List MarchElement) (p : DynamicPrimitive) (e : DynEscape) → IsMarch march → (first : IsFirstOf (end_in p) march p (candidates_of (spots_of (has_aggressor p))) e)
    → (x : DynArray) → PassesDyn march p x → IsInOrder (order_of_array (made_array first.found (ways_word 0 (ways_of march p first.found)))) (order_of_array x)
made_least march p e is_march first x passing =
    let a = passing.array in
    let shown = shown_by p (places_of_array x) x.size x.content a.places a.each_cell a.some in
    let d : Candidate = shown.0 in
    let is : Shown p x.agg x.vic x.size x.content d = shown.1 in
    let told = told_by march p (places_of_array x) x.size x.content d is_march a.places a.each_cell is.same_shape is.same_start in
    let only = told.only (directions_of x.directions (length march)) a.directions.allowed passing.passes in
    ⊎_elim
    (λ (h : IsIn d first.before). absurd (none_in march p first.before d first.none_before h only.0))
    (λ (h : (d ≡ first.found) ⊎ IsIn d first.behind).
    ⊎_elim
    (λ (e : d ≡ first.found).
    let same : Shown p x.agg x.vic x.size x.content first.found = subst (λ c. Shown p x.agg x.vic x.size x.content c) e is in
    same.order word x.directions (least_word (subst (λ c. IsNotAfter (ways_of march p c) (directions_of x.directions (length march))) e only.1)))
    (λ (i : IsIn d first.behind).
    in_order_on (order_of first.found ++ word ∷ []) (order_of d ++ x.directions ∷ []) (order_of_array x)
    (before_in_order (order_of first.found) (order_of d) (word ∷ []) (x.directions ∷ []) (before_behind (has_aggressor p) first.before first.found first.behind d first.split i))
    (is.order x.directions x.directions (omega arith)))
    h)
    (in_split first.before first.found first.behind d (subst (λ cs. IsIn d cs) first.split is.listed))
  where
    word : ℕ
    word = ways_word 0 (ways_of march p first.found)

    can : CanPass march p first.found
    can = can_pass_of march p first.found (subst (λ cs. IsIn first.found cs) (sym first.split) (in_middle first.before first.found first.behind)) first.passes

    least_word : IsNotAfter (ways_of march p first.found) (directions_of x.directions (length march)) → word ≤ x.directions
    least_word n =
        let t = passes_at march p first.found is_march can first.found.spot.agg first.found.spot.vic first.found.spot.size can.small.fits refl in
        word_least march (ways_of march p first.found) x.directions is_march.elements_within t.0 passing.array.is_word passing.array.directions n

-- the least of a primitive, which may be named twice
record LeastAs (march : List MarchElement) (p : DynamicPrimitive) (e : DynEscape) : Type 0 where
  escape : PassesDyn march p (array_of e)
  few : e.size ≤ 5
  blank : AllByRecursion (λ b. b ≡ false) (drop e.size e.content)
  least : (x : DynArray) → PassesDyn march p x → IsInOrder (order_of_array (array_of e)) (order_of_array x)

as_least : (march : List MarchElement) (p : DynamicPrimitive) (e : DynEscape) → e.prim ≡ p → LeastAs march p e → LeastDyn march e
as_least march p e same l =
    let is : LeastAs march e.prim e = subst (λ q. LeastAs march q e) (sym same) l in
    record { escape = is.escape; few = is.few; blank = is.blank; least = is.least }

-- the verdict on an escape
pub escape_verdict : (march : List MarchElement) (p : DynamicPrimitive) (e : DynEscape) → IsMarch march → IsFirstOf (end_in p) march p (candidates_of (spots_of (has_aggressor p))) e
    → IsDynVerdict march p (Escape e)
escape_verdict march p e is_march first =
    let made = first.made in
    let c : Candidate = first.found in
    let can : CanPass march p c = can_pass_of march p c (subst (λ cs. IsIn c cs) (sym first.split) (in_middle first.before c first.behind)) first.passes in
    let few : c.spot.size ≤ 5 = let most : c.spot.size ≤ 4 = can.small.few in omega arith in
    let same : array_of e ≡ made_array c (ways_word 0 (ways_of march p c)) = same_array march p c e made few in
    let passing : PassesDyn march p (made_array c (ways_word 0 (ways_of march p c))) = made_passes march p c is_march can in (
      made.prim,
      as_least march p e made.prim (record {
        escape = subst (λ x. PassesDyn march p x) (sym same) passing;
        few = subst (λ n. n ≤ 5) (sym made.size) few;
        blank = subst (λ n. AllByRecursion (λ b. b ≡ false) (drop n e.content)) (sym made.size)
            (subst (λ l. AllByRecursion (λ b. b ≡ false) (drop c.spot.size l)) (sym made.content)
            (blank-content c.spot.agg c.spot.vic c.pair c.spot.size (places_below (has_aggressor p) c.spot.agg c.spot.vic c.spot.size can.small.fits) 0 c.spot.size 5 (omega arith)));
        least = λ x passes. subst (λ y. IsInOrder (order_of_array y) (order_of_array x)) (sym same) (made_least march p e is_march first x passes);
      }),
      λ detects. passing.passes (detects c.spot.size can.small.some (directions_of (ways_word 0 (ways_of march p c)) (length march)) (places_of_array (made_array c (ways_word 0 (ways_of march p c))))
          (content_from c.spot.agg c.spot.vic c.pair 0 c.spot.size) passing.array.directions.allowed passing.array.places passing.array.each_cell),
    )

-- from four cells on each size has an array that passes
pub escape_at : (march : List MarchElement) (p : DynamicPrimitive) (e : DynEscape) → IsMarch march → IsFirstOf (end_in p) march p (candidates_of (spots_of (has_aggressor p))) e
    → (size : ℕ) → 4 ≤ size → DetectsDynAt size march p → ⊥
escape_at march p e is_march first size more detects =
    let c : Candidate = first.found in
    let can : CanPass march p c = can_pass_of march p c (subst (λ cs. IsIn c cs) (sym first.split) (in_middle first.before c first.behind)) first.passes in
    let large : IsLarge (has_aggressor p) c.spot size = has_large (has_aggressor p) c.spot size can.spot more in
    let t = passes_at march p c is_march can large.agg large.vic size large.fits large.shape in
    t.1 (detects (ways_of march p c) (record { agg = large.agg; vic = large.vic }) (content_from large.agg large.vic c.pair 0 size) t.0 (fits_in p large.agg large.vic size large.fits)
    (length-content large.agg large.vic c.pair 0 size))
