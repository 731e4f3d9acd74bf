-- The search among the small arrays, one after another.
use Rattle.std.proofs.Common.{◌≡◌, ◌+◌, ◌<◌, ℕ, true, false, List, [], ◌∷◌, ◌++◌, length, map, take, drop, get_or, refl, ap, sym, subst, ◌∙◌, append_assoc, append-nil}
use Rattle.std.specs.List.{AllByRecursion}
use Rattle.std.proofs.lemmas.List.{take_more, drop_more, map-append, take-append-drop}
use Rattle.cell_machine.specs.declared.pair.Pair.{Pair}
use Rattle.march_core.specs.March.{MarchElement}
use Rattle.dynamic_core.specs.Primitive.{DynamicPrimitive}
use Rattle.dynamic_prover.specs.declared.leg.Leg.{Leg}
use Rattle.dynamic_prover.specs.declared.spot.Spot.{Spot}
use Rattle.dynamic_prover.specs.declared.escape.DynEscape.{DynEscape}
use Rattle.dynamic_prover.specs.inner.Own.{own_as}
use Rattle.dynamic_prover.specs.inner.Shapes.{end_in}
use Rattle.pair_tracker.specs.Ways.{ways_word}
use Rattle.dynamic_prover.specs.inner.Legs.{leg_end, AreLegs}
use Rattle.dynamic_prover.specs.inner.Spots.{shape_at, starts_of, Candidate, candidate_at, candidates_at, candidates_of, passes_by, IsMadeOf, NonePasses, IsFirstOf}
use Rattle.dynamic_prover.proofs.Tables.{can_by_legs, ways_by_legs}

all_append : {X : Type 0} (P : X → Type 0) (xs ys : List X) → AllByRecursion P xs → AllByRecursion P ys → AllByRecursion P (xs ++ ys)
all_append P [] ys h k = k
all_append P (x ∷ xs) ys h k = (h.0, all_append P xs ys h.1 k)

-- one more start that cannot pass
pub none_more : (legs : List Leg) (s : Spot) (pairs : List Pair) (i : ℕ) (pair blank : Pair) → i < length pairs → pair ≡ get_or pairs i blank
    → NonePasses leg_end legs (map (candidate_at s) (take i pairs)) → passes_by leg_end legs (candidate_at s pair) ≡ false
    → NonePasses leg_end legs (map (candidate_at s) (take (i + 1) pairs))
none_more legs s pairs i pair blank within is before fails =
    let more : map (candidate_at s) (take (i + 1) pairs) ≡ map (candidate_at s) (take i pairs) ++ candidate_at s pair ∷ [] =
    ap (map (candidate_at s)) (take_more pairs i blank within ∙ ap (λ x. take i pairs ++ x ∷ []) (sym is)) ∙ map-append (candidate_at s) (take i pairs) (pair ∷ []) in
    subst (λ cs. NonePasses leg_end legs cs) (sym more) (all_append (λ c. passes_by leg_end legs c ≡ false) (map (candidate_at s) (take i pairs)) (candidate_at s pair ∷ []) before (fails, tt))

parts_of : {X : Type 0} (xs : List X) (i : ℕ) (x blank : X) → i < length xs → x ≡ get_or xs i blank → xs ≡ take i xs ++ x ∷ drop (i + 1) xs
parts_of xs i x blank within is =
    sym (take-append-drop i xs) ∙ ap (λ l. take i xs ++ l) (drop_more xs i blank within ∙ ap (λ y. y ∷ drop (i + 1) xs) (sym is))

pub found_at : (p : DynamicPrimitive) (legs : List Leg) (s : Spot) (pairs : List Pair) (i : ℕ) (pair blank : Pair) (e : DynEscape) → pairs ≡ starts_of s
    → i < length pairs → pair ≡ get_or pairs i blank
    → NonePasses leg_end legs (map (candidate_at s) (take i pairs)) → passes_by leg_end legs (candidate_at s pair) ≡ true
    → IsMadeOf leg_end legs p (candidate_at s pair) e → IsFirstOf leg_end legs p (candidates_at s) e
found_at p legs s pairs i pair blank e are within is before passes made = record {
  before = map (candidate_at s) (take i pairs);
  found = candidate_at s pair;
  behind = map (candidate_at s) (drop (i + 1) pairs);
  split = ap (map (candidate_at s)) (sym are ∙ parts_of pairs i pair blank within is) ∙ map-append (candidate_at s) (take i pairs) (pair ∷ drop (i + 1) pairs);
  none_before = before;
  passes = passes;
  made = made;
}

-- what is found by the tables is found by the march
passes_same : (p : DynamicPrimitive) (march : List MarchElement) (legs : List Leg) → AreLegs p march legs → (c : Candidate) → passes_by leg_end legs c ≡ passes_by (end_in p) march c
passes_same p march legs are c = can_by_legs p (shape_at c.spot) march legs are (own_as c.pair false)

none_by_march : (p : DynamicPrimitive) (march : List MarchElement) (legs : List Leg) → AreLegs p march legs → (cs : List Candidate) → NonePasses leg_end legs cs → NonePasses (end_in p) march cs
none_by_march p march legs are [] none = tt
none_by_march p march legs are (c ∷ cs) none = (sym (passes_same p march legs are c) ∙ none.0, none_by_march p march legs are cs none.1)

candidates-append : (xs ys : List Spot) → candidates_of (xs ++ ys) ≡ candidates_of xs ++ candidates_of ys
candidates-append [] ys = refl
candidates-append (x ∷ xs) ys = ap (λ l. candidates_at x ++ l) (candidates-append xs ys) ∙ sym (append_assoc (candidates_at x) (candidates_of xs) (candidates_of ys))

pub none_at_more : (p : DynamicPrimitive) (march : List MarchElement) (legs : List Leg) (spots : List Spot) (i : ℕ) (s blank : Spot) → AreLegs p march legs
    → i < length spots → s ≡ get_or spots i blank
    → NonePasses (end_in p) march (candidates_of (take i spots)) → NonePasses leg_end legs (candidates_at s) → NonePasses (end_in p) march (candidates_of (take (i + 1) spots))
none_at_more p march legs spots i s blank are within is before none =
    let more : candidates_of (take (i + 1) spots) ≡ candidates_of (take i spots) ++ candidates_of (s ∷ []) =
    ap candidates_of (take_more spots i blank within ∙ ap (λ x. take i spots ++ x ∷ []) (sym is)) ∙ candidates-append (take i spots) (s ∷ []) in
    let last : candidates_of (s ∷ []) ≡ candidates_at s = append-nil (candidates_at s) in
    subst (λ cs. NonePasses (end_in p) march cs) (sym (more ∙ ap (λ l. candidates_of (take i spots) ++ l) last))
    (all_append (λ c. passes_by (end_in p) march c ≡ false) (candidates_of (take i spots)) (candidates_at s) before (none_by_march p march legs are (candidates_at s) none))

pub found_among : (p : DynamicPrimitive) (march : List MarchElement) (legs : List Leg) (spots : List Spot) (i : ℕ) (s blank : Spot) (e : DynEscape) → AreLegs p march legs
    → i < length spots → s ≡ get_or spots i blank
    → NonePasses (end_in p) march (candidates_of (take i spots)) → IsFirstOf leg_end legs p (candidates_at s) e → IsFirstOf (end_in p) march p (candidates_of spots) e
found_among p march legs spots i s blank e are within is before first =
    let rest : List Candidate = candidates_of (drop (i + 1) spots) in
    let front : List Candidate = candidates_of (take i spots) in
    let whole : candidates_of spots ≡ front ++ (candidates_at s ++ rest) =
    ap candidates_of (parts_of spots i s blank within is) ∙ candidates-append (take i spots) (s ∷ drop (i + 1) spots) in
    let made = first.made in
    record {
      before = front ++ first.before;
      found = first.found;
      behind = first.behind ++ rest;
      split = whole ∙ ap (λ l. front ++ (l ++ rest)) first.split ∙ ap (λ l. front ++ l) (append_assoc first.before (first.found ∷ first.behind) rest)
          ∙ sym (append_assoc front first.before (first.found ∷ (first.behind ++ rest)));
      none_before = all_append (λ c. passes_by (end_in p) march c ≡ false) front first.before before (none_by_march p march legs are first.before first.none_before);
      passes = sym (passes_same p march legs are first.found) ∙ first.passes;
      made = record {
        prim = made.prim;
        size = made.size;
        agg = made.agg;
        vic = made.vic;
        content = made.content;
        directions = made.directions ∙ ap (ways_word 0) (ways_by_legs p (shape_at first.found.spot) march legs are (own_as first.found.pair false));
      };
    }
