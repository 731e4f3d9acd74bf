-- The search in the order of the contents and of the placements finds the least escape.
use Rattle.std.proofs.Common.{◌≡◌, ◌+◌, ◌<◌, ◌≤◌, ℕ, Bool, true, false, Option, Some, None, is_some, List, [], ◌∷◌, length, refl, ap, sym, subst, ◌∙◌, ◌⊎◌, inl, inr, ⊎_elim, arith}
use Rattle.std.proofs.Math.Nat.{eq-or-lt_of_le}
use Rattle.fault_core.specs.declared.cells.Places.{Places}
use Rattle.fault_core.specs.declared.primitive.Sense.{Sense}
use Rattle.std.specs.Prelude.{MatchOption}
use Rattle.std.proofs.lemmas.Bool.{cases_lt}
use Rattle.fault_core.specs.Primitive.{Primitive}
use Rattle.march_core.specs.March.{MarchElement}
use Rattle.march_core.specs.Visits.{directions_of}
use Rattle.array_sim.specs.Detection.{IsCaught, cells_after}
use Rattle.cell_machine.specs.declared.pair.Pair.{Pair}
use Rattle.cell_machine.specs.Pairs.{pair_of}
use Rattle.pair_tracker.specs.declared.placement.Placement.{Placement}
use Rattle.pair_tracker.specs.declared.placement.Placement.TheVariants.{Alone, Below, Above}
use Rattle.pair_tracker.specs.Legs.{Leg, SumsUp}
use Rattle.pair_tracker.specs.Placements.{places_in, FitsPlacement, pair_in}
use Rattle.pair_tracker.specs.Survivors.{pair_number, LetsThrough, IsLeastWord}
use Rattle.pair_tracker.specs.inner.Numbers.{same_number}
use Rattle.escape_array.specs.declared.escape.EscapeArray.{EscapeArray}
use Rattle.escape_array.specs.Escapes.{IsEscape, IsLeastEscape, IsNoGreater, places_of_escape, placement_number, content_number}
use Rattle.escape_array.specs.inner.Searching.{NoneBefore, IsLeastIn}

-- two cells hold one of four contents
pub content_below : (content : List Bool) → length content ≡ 2 → content_number content < 4
content_below [] e = cc
content_below (x ∷ []) e = cc
content_below (true ∷ true ∷ []) e = omega arith
content_below (true ∷ false ∷ []) e = omega arith
content_below (false ∷ true ∷ []) e = omega arith
content_below (false ∷ false ∷ []) e = omega arith
content_below (x ∷ y ∷ z ∷ rest) e = absurd (omega arith)

as_pair : (a b : Bool) → content_number (a ∷ b ∷ []) ≡ pair_number (pair_of a b)
as_pair true true = refl
as_pair true false = refl
as_pair false true = refl
as_pair false false = refl

same_bits : (a b c d : Bool) → content_number (a ∷ b ∷ []) ≡ content_number (c ∷ d ∷ []) → a ∷ b ∷ [] ≡ c ∷ d ∷ []
same_bits a b c d e = ap (λ (p : Pair). p.a ∷ p.v ∷ []) (same_number (pair_of a b) (pair_of c d) (sym (as_pair a b) ∙ e ∙ as_pair c d))

-- the number tells the content
pub same_content : (c d : List Bool) → length c ≡ 2 → length d ≡ 2 → content_number c ≡ content_number d → c ≡ d
same_content [] d h k e = cc
same_content (a ∷ []) d h k e = cc
same_content (a ∷ b ∷ x ∷ rest) d h k e = absurd (omega arith)
same_content (a ∷ b ∷ []) [] h k e = cc
same_content (a ∷ b ∷ []) (c ∷ []) h k e = cc
same_content (a ∷ b ∷ []) (c ∷ d ∷ x ∷ rest) h k e = absurd (omega arith)
same_content (a ∷ b ∷ []) (c ∷ d ∷ []) h k e = same_bits a b c d e

-- the least word of a summary of the whole march
pub least_of_whole : (march : List MarchElement) (p : Primitive) (placement : Placement) (n : ℕ) (leg : Leg) (content : List Bool) (result : Option ℕ)
    → SumsUp march p placement 0 n leg → IsLeastWord leg.march leg.prim leg.placement content result → IsLeastWord march p placement content result
least_of_whole march p placement n leg content result sums least =
    subst (λ place. IsLeastWord march p place content result) sums.placement_is
    (subst (λ q. IsLeastWord march q leg.placement content result) sums.prim_is
    (subst (λ m. IsLeastWord m leg.prim leg.placement content result) sums.march_is least))

-- nothing before the next content, where this one is not let through
pub none_so_far : (march : List MarchElement) (p : Primitive) (placement : Placement) (number : ℕ) (content : List Bool) → length content ≡ 2
    → content_number content ≡ number → NoneBefore march p placement number → IsLeastWord march p placement content None → NoneBefore march p placement (number + 1)
none_so_far march p placement number content two is before none c size low word through =
    ⊎_elim
    (λ (h : content_number c ≡ number).
    let same : content ≡ c = same_content content c two size (is ∙ sym h) in
    none word (subst (λ d. LetsThrough march p placement d word) (sym same) through))
    (λ (h : content_number c < number). before c size h word through)
    (eq_or_lt (content_number c) number low)
  where
    eq_or_lt : (m n : ℕ) → m < n + 1 → (m ≡ n) ⊎ (m < n)
    eq_or_lt m n h = eq-or-lt_of_le (omega arith)

-- an escape in a placement is let through there
pub lets_through : (march : List MarchElement) (e : EscapeArray) (escape : IsEscape march e) (placement : Placement) → places_of_escape e ≡ places_in placement
    → LetsThrough march e.prim placement e.content e.directions
lets_through march e escape placement places = (
  pair_in placement (cells_after march (directions_of e.directions (length march)) e.prim (places_in placement) e.content),
  record {
    is_word = escape.array.is_word;
    fits = escape.array.directions;
    passes = subst (λ at. IsCaught march (directions_of e.directions (length march)) e.prim at e.content → ⊥) places escape.passes;
    ends = refl;
  },
)

-- what the search in a placement finds is an escape
pub found_escape : (march : List MarchElement) (p : Primitive) (placement : Placement) (e : EscapeArray) → FitsPlacement p placement → IsLeastIn march p placement e → IsEscape march e
found_escape march p placement e fits least =
    let through = least.word.0.1 in
    let same : p ≡ e.prim = sym least.prim in
    record {
      array = record {
        placement = placement;
        fits = subst (λ q. FitsPlacement q placement) same fits;
        places = least.places;
        two_cells = least.two_cells;
        is_word = through.is_word;
        directions = through.fits;
      };
      passes =
          subst (λ at. IsCaught march (directions_of e.directions (length march)) e.prim at e.content → ⊥) (sym least.places)
          (subst (λ q. IsCaught march (directions_of e.directions (length march)) q (places_in placement) e.content → ⊥) same through.passes);
    }

-- it is no greater than another in the placement
pub no_greater : (march : List MarchElement) (p : Primitive) (placement : Placement) (e f : EscapeArray) → IsLeastIn march p placement e → f.prim ≡ p → IsEscape march f
    → places_of_escape f ≡ places_in placement → IsNoGreater e f
no_greater march p placement e f least same escape places =
    let through : LetsThrough march p placement f.content f.directions = subst (λ q. LetsThrough march q placement f.content f.directions) same (lets_through march f escape placement places) in
    let agg : e.agg ≡ f.agg = ap (λ (at : Places). at.agg) (least.places ∙ sym places) in
    inr (
      ap placement_number agg,
      ⊎_elim
          (λ (h : content_number e.content ≡ content_number f.content).
          let content : f.content ≡ e.content = same_content f.content e.content escape.array.two_cells least.two_cells (sym h) in
          inr (h, least.word.1 f.directions (subst (λ c. LetsThrough march p placement c f.directions) content through)))
          (λ (h : (content_number e.content < content_number f.content) ⊎ (content_number f.content < content_number e.content)).
          ⊎_elim
          (λ (k : content_number e.content < content_number f.content). inl k)
          (λ (k : content_number f.content < content_number e.content). absurd (least.before f.content escape.array.two_cells k f.directions through))
          h)
          (trichotomy (content_number e.content) (content_number f.content)),
    )
  where
    trichotomy : (m n : ℕ) → (m ≡ n) ⊎ ((m < n) ⊎ (n < m))
    trichotomy m n =
        ⊎_elim
        (λ (h : m < n). inr (inl h))
        (λ (h : n ≤ m). ⊎_elim (λ (k : n ≡ m). inl (sym k)) (λ (k : n < m). inr (inr k)) (eq-or-lt_of_le h))
        (cases_lt m n)

-- where the search in a placement finds none, there is none
pub none_there : (march : List MarchElement) (p : Primitive) (placement : Placement) (f : EscapeArray) → NoneBefore march p placement 4 → f.prim ≡ p → IsEscape march f
    → places_of_escape f ≡ places_in placement → ⊥
none_there march p placement f none same escape places =
    none f.content escape.array.two_cells (content_below f.content escape.array.two_cells) f.directions
    (subst (λ q. LetsThrough march q placement f.content f.directions) same (lets_through march f escape placement places))

-- the placement of an escape
pub alone : (march : List MarchElement) (f : EscapeArray) → IsEscape march f → is_some f.prim.agg ≡ false → places_of_escape f ≡ places_in Alone
alone march f escape none = go escape.array.placement escape.array.fits escape.array.places
  where
    go : (placement : Placement) → FitsPlacement f.prim placement → places_of_escape f ≡ places_in placement → places_of_escape f ≡ places_in Alone
    go Alone fits places = places
    go Below fits places = cc
    go Above fits places = cc

pub below_or_above : (march : List MarchElement) (f : EscapeArray) → IsEscape march f → is_some f.prim.agg ≡ true
    → (places_of_escape f ≡ places_in Below) ⊎ (places_of_escape f ≡ places_in Above)
below_or_above march f escape some = go escape.array.placement escape.array.fits escape.array.places
  where
    go : (placement : Placement) → FitsPlacement f.prim placement → places_of_escape f ≡ places_in placement
        → (places_of_escape f ≡ places_in Below) ⊎ (places_of_escape f ≡ places_in Above)
    go Alone fits places = let e : is_some f.prim.agg ≡ false = ap is_some fits in cc
    go Below fits places = inl places
    go Above fits places = inr places

-- no array of two cells passes
abbrev pub NoEscape : List MarchElement → Primitive → Type 0
NoEscape march p = (e : EscapeArray) → e.prim ≡ p → IsEscape march e → ⊥

abbrev pub IsLeastOfPrim : List MarchElement → Primitive → EscapeArray → Type 0
IsLeastOfPrim march p e = (e.prim ≡ p) × IsLeastEscape march e

-- a primitive of one cell
pub least_alone : (march : List MarchElement) (p : Primitive) → is_some p.agg ≡ false → (r : Option EscapeArray)
    → MatchOption r (NoneBefore march p Alone 4) (λ e. IsLeastIn march p Alone e) → MatchOption r (NoEscape march p) (λ e. IsLeastOfPrim march p e)
least_alone march p none None h = λ e same escape.
    none_there march p Alone e h same escape (alone march e escape (ap (λ (q : Primitive). is_some q.agg) same ∙ none))
least_alone march p none (Some e) h = (
  h.prim,
  record {
    escape = found_escape march p Alone e (no_agg p.agg none) h;
    least = λ f same escape.
        let is : f.prim ≡ p = same ∙ h.prim in
        no_greater march p Alone e f h is escape (alone march f escape (ap (λ (q : Primitive). is_some q.agg) is ∙ none));
  },
)
  where
    no_agg : (agg : Option Sense) → is_some agg ≡ false → agg ≡ None
    no_agg None e = refl
    no_agg (Some s) e = cc

-- a primitive of two cells, with its aggressor below
pub least_below : (march : List MarchElement) (p : Primitive) → is_some p.agg ≡ true → (e : EscapeArray) → IsLeastIn march p Below e → IsLeastOfPrim march p e
least_below march p some e h = (
  h.prim,
  record {
    escape = found_escape march p Below e some h;
    least = λ f same escape.
        let is : f.prim ≡ p = same ∙ h.prim in
        ⊎_elim
        (λ (k : places_of_escape f ≡ places_in Below). no_greater march p Below e f h is escape k)
        (λ (k : places_of_escape f ≡ places_in Above). inl (before (ap (λ (at : Places). at.agg) h.places) (ap (λ (at : Places). at.agg) k)))
        (below_or_above march f escape (ap (λ (q : Primitive). is_some q.agg) is ∙ some));
  },
)
  where
    before : {a b : Option ℕ} → a ≡ Some 0 → b ≡ Some 1 → placement_number a < placement_number b
    before x y = rw (x, y) (omega arith)

-- with its aggressor above, where none passes with it below
pub least_above : (march : List MarchElement) (p : Primitive) → is_some p.agg ≡ true → NoneBefore march p Below 4 → (r : Option EscapeArray)
    → MatchOption r (NoneBefore march p Above 4) (λ e. IsLeastIn march p Above e) → MatchOption r (NoEscape march p) (λ e. IsLeastOfPrim march p e)
least_above march p some none_below None h = λ e same escape.
    ⊎_elim
    (λ (k : places_of_escape e ≡ places_in Below). none_there march p Below e none_below same escape k)
    (λ (k : places_of_escape e ≡ places_in Above). none_there march p Above e h same escape k)
    (below_or_above march e escape (ap (λ (q : Primitive). is_some q.agg) same ∙ some))
least_above march p some none_below (Some e) h = (
  h.prim,
  record {
    escape = found_escape march p Above e some h;
    least = λ f same escape.
        let is : f.prim ≡ p = same ∙ h.prim in
        ⊎_elim
        (λ (k : places_of_escape f ≡ places_in Below). absurd (none_there march p Below f none_below is escape k))
        (λ (k : places_of_escape f ≡ places_in Above). no_greater march p Above e f h is escape k)
        (below_or_above march f escape (ap (λ (q : Primitive). is_some q.agg) is ∙ some));
  },
)
