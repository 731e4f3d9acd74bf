-- The least words to each pair are the ends of some elements, and the least to any that of a content which is let through.
use Rattle.std.proofs.Common.{◌≡◌, ℕ, Bool, true, false, Option, Some, None, List, [], ◌∷◌, length, get_or, refl, ap, sym, subst, ◌∙◌}
use Rattle.std.specs.List.{AllByRecursion, filter_map, Contains}
use Rattle.std.proofs.lemmas.Bool.{and_parts}
use Rattle.fault_core.specs.Primitive.{Primitive, same_bit}
use Rattle.march_core.specs.March.{MarchElement}
use Rattle.cell_machine.specs.declared.pair.Pair.{Pair}
use Rattle.cell_machine.specs.Pairs.{pair_of, pair_close}
use Rattle.pair_tracker.specs.declared.placement.Placement.{Placement}
use Rattle.pair_tracker.specs.declared.placement.Survivor.{Survivor}
use Rattle.pair_tracker.specs.Legs.{IsLeg, AreLegEnds, SumsUp}
use Rattle.pair_tracker.specs.Pairs.{machine_of, sides_in}
use Rattle.pair_tracker.specs.Placements.{pair_in}
use Rattle.pair_tracker.specs.Survivors.{Survives, IsEnd, AreEnds, AreSurvivors, pair_number, IsLeastOf, LetsThrough, IsLeastWord}
use Rattle.pair_tracker.specs.Tracking.{Leads, LeadsTo, is_below}
use Rattle.pair_tracker.specs.Reached.{is_wanted, word_to, all_pairs, with_word, words_from, ends_by, rows_of, IsSpan}
use Rattle.pair_tracker.proofs.LeastWords.{least_words, least_same}
use Rattle.pair_tracker.specs.inner.Numbers.{at_each_pair}
use Rattle.pair_tracker.proofs.Passing.{leg_leads, leads_leg, survives_leg, leg_survives}
use Rattle.pair_tracker.proofs.Found.{each_found, found_there, found_ordered}

-- the pairs with their least words are the ends
are_ends : (Way : Pair → ℕ → Type 0) (words : Pair → Option ℕ) → ((q : Pair) → IsLeastOf (Way q) (words q)) → AreEnds Way (filter_map (with_word words) all_pairs)
are_ends Way words least = record {
  each = each_found (IsEnd Way) words all_pairs end;
  all = λ final word way. there final word way (words final) refl (least final);
  ordered = found_ordered words;
}
  where
    end : (q : Pair) (word : ℕ) → words q ≡ Some word → IsEnd Way (record { pair = q; directions = word })
    end q word e =
        let at : IsLeastOf (Way q) (Some word) = subst (IsLeastOf (Way q)) e (least q) in
        record { leads = at.0; least = λ other way. at.1 other way }

    there : (final : Pair) (word : ℕ) → Way final word → (o : Option ℕ) → words final ≡ o → IsLeastOf (Way final) o
        → (s : Survivor) × Contains (filter_map (with_word words) all_pairs) s × (s.pair ≡ final)
    there final word way None e none = absurd (none word way)
    there final word way (Some w) e least = (record { pair = final; directions = w }, found_there words final w e, refl)

-- where each way is one of the other kind, the ends are the same
ends_same : (P Q : Pair → ℕ → Type 0) → ((q : Pair) (w : ℕ) → P q w → Q q w) → ((q : Pair) (w : ℕ) → Q q w → P q w) → (found : List Survivor)
    → AreEnds P found → AreEnds Q found
ends_same P Q f g found are = record { each = each found are.each; all = λ final word way. are.all final word (g final word way); ordered = are.ordered }
  where
    each : (ss : List Survivor) → AllByRecursion (IsEnd P) ss → AllByRecursion (IsEnd Q) ss
    each [] all = tt
    each (s ∷ ss) all = (record { leads = f s.pair s.directions all.0.leads; least = λ w way. all.0.least w (g s.pair w way) }, each ss all.1)

-- the pair that is wanted
pub same_pair : (q r : Pair) → is_wanted (Some q) r ≡ true → r ≡ q
same_pair q r e =
    let t = and_parts (same_bit r.a q.a) (same_bit r.v q.v) e in
    ap (λ x. pair_of x r.v) (same r.a q.a t.0) ∙ ap (pair_of q.a) (same r.v q.v t.1)
  where
    same : (a b : Bool) → same_bit a b ≡ true → a ≡ b
    same true true e = refl
    same true false e = cc
    same false true e = cc
    same false false e = refl

pub wants_itself : (q : Pair) → is_wanted (Some q) q ≡ true
wants_itself q = at_each_pair (λ q. is_wanted (Some q) q ≡ true) refl refl refl refl q

-- the pairs with the words of their searches are the ends of the elements
pub ends_are : (march : List MarchElement) (p : Primitive) (placement : Placement) (i j : ℕ) → IsSpan march p placement i j → (start : Pair)
    → AreLegEnds march p placement i j start (ends_by march p placement i j start)
ends_are march p placement i j is start =
    are_ends (λ final word. IsLeg march p placement i j start final word) (words_from march p placement i j start)
    (λ q. least_same (LeadsTo (is_wanted (Some q)) (machine_of p) (sides_in (is_below placement)) march i j start) (IsLeg march p placement i j start q)
    (λ w to. leads_leg p placement march i j start q w is.fits is.is_march is.ordered is.within
    (subst (λ r. Leads (machine_of p) (sides_in (is_below placement)) march i j start r w) (same_pair q to.end to.is_wanted) to.leads))
    (λ w leg. record { end = q; is_wanted = wants_itself q; leads = leg_leads p placement march i j start q w is.fits is.is_march is.ordered is.within leg })
    (words_from march p placement i j start q)
    (least_words (is_wanted (Some q)) (machine_of p) (sides_in (is_below placement)) march i j start is.ordered is.within is.is_march.elements_within))

pub row_there : (march : List MarchElement) (p : Primitive) (placement : Placement) (i j : ℕ) (start : Pair)
    → get_or (rows_of march p placement i j) (pair_number start) [] ≡ ends_by march p placement i j start
row_there march p placement i j start =
    at_each_pair (λ q. get_or (rows_of march p placement i j) (pair_number q) [] ≡ ends_by march p placement i j q) refl refl refl refl start

pub sums_up : (march : List MarchElement) (p : Primitive) (placement : Placement) (i j : ℕ) → IsSpan march p placement i j
    → SumsUp march p placement i j (record { march = march; prim = p; placement = placement; first = i; end = j; rows = rows_of march p placement i j })
sums_up march p placement i j is = record {
  march_is = refl;
  prim_is = refl;
  placement_is = refl;
  first_is = refl;
  end_is = refl;
  ends = λ start. subst (AreLegEnds march p placement i j start) (sym (row_there march p placement i j start)) (ends_are march p placement i j is start);
}

-- the elements of a whole march
whole_span : (march : List MarchElement) (p : Primitive) (placement : Placement) (i j : ℕ) → i ≡ 0 → j ≡ length march → IsSpan march p placement i j
    → IsSpan march p placement 0 (length march)
whole_span march p placement i j first last is =
    subst (λ n. IsSpan march p placement 0 n) last (subst (λ n. IsSpan march p placement n j) first is)

-- the ends of the whole march from a closed content are the survivors
pub whole_survivors : (march : List MarchElement) (p : Primitive) (placement : Placement) (i j : ℕ) (content : List Bool) (found : List Survivor)
    → i ≡ 0 → j ≡ length march → IsSpan march p placement i j → length content ≡ 2
    → AreLegEnds march p placement i j (pair_close p (pair_in placement content)) found → AreSurvivors march p placement content found
whole_survivors march p placement i j content found first last is size are =
    let start : Pair = pair_close p (pair_in placement content) in
    ends_same (λ final word. IsLeg march p placement 0 (length march) start final word) (λ final word. Survives march p placement content word final)
    (λ q w leg. leg_survives p placement march content w q is.fits size leg)
    (λ q w survives. survives_leg p placement march content w q is.fits size survives) found
    (subst (λ n. AreLegEnds march p placement 0 n start found) last (subst (λ n. AreLegEnds march p placement n j start found) first are))

-- the least word to any end is the least in which the content is let through
pub least_through : (march : List MarchElement) (p : Primitive) (placement : Placement) (i j : ℕ) (content : List Bool) (word : Option ℕ)
    → i ≡ 0 → j ≡ length march → IsSpan march p placement i j → length content ≡ 2
    → word ≡ word_to (is_wanted None) (machine_of p) (sides_in (is_below placement)) march i j (pair_close p (pair_in placement content))
    → IsLeastWord march p placement content word
least_through march p placement i j content word first last is size e =
    let n : ℕ = length march in
    let start : Pair = pair_close p (pair_in placement content) in
    let whole : IsSpan march p placement 0 n = whole_span march p placement i j first last is in
    least_same (LeadsTo (is_wanted None) (machine_of p) (sides_in (is_below placement)) march 0 n start) (λ w. LetsThrough march p placement content w)
    (λ w to. (
      to.end,
      leg_survives p placement march content w to.end is.fits size
          (leads_leg p placement march 0 n start to.end w is.fits is.is_march whole.ordered whole.within to.leads),
    ))
    (λ w through. record {
      end = through.0;
      is_wanted = refl;
      leads = leg_leads p placement march 0 n start through.0 w is.fits is.is_march whole.ordered whole.within
          (survives_leg p placement march content w through.0 is.fits size through.1);
    }) word
    (subst (IsLeastOf (LeadsTo (is_wanted None) (machine_of p) (sides_in (is_below placement)) march 0 n start))
    (sym (e ∙ ap (λ k. word_to (is_wanted None) (machine_of p) (sides_in (is_below placement)) march k j start) first
    ∙ ap (λ k. word_to (is_wanted None) (machine_of p) (sides_in (is_below placement)) march 0 k start) last))
    (least_words (is_wanted None) (machine_of p) (sides_in (is_below placement)) march 0 n start whole.ordered whole.within is.is_march.elements_within))
