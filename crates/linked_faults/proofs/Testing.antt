-- The test of two linked primitives tells what it is to tell.
use Rattle.std.proofs.Common.{◌≡◌, ◌≢◌, ◌↔◌, ◌⊎◌, inl, inr, ⊎_elim, Bool, true, false, not, ◌&&◌, ◌||◌, Option, Some, None, refl, ap, sym, ◌∙◌}
use Rattle.std.proofs.lemmas.Bool.{and_parts}
use Rattle.fault_core.specs.Primitive.{IsPrimitive, has_aggressor, same_bit}
use Rattle.fault_core.specs.Cells.{has_act}
use Rattle.fault_core.proofs.Tests.{same_bit-equal}
use Rattle.linked_faults.specs.declared.link.Link.{Link}
use Rattle.linked_faults.specs.Linking.{IsLinked, good_after}
use Rattle.linked_faults.specs.inner.Testing.{is_quiet, leaves_wrong, hides_wrong_bit, can_share, linked_test}

ne_from : (a b : Bool) → not (same_bit a b) ≡ true → a ≢ b
ne_from true true h e = cc
ne_from true false h e = cc
ne_from false true h e = cc
ne_from false false h e = cc

ne_to : (a b : Bool) → a ≢ b → not (same_bit a b) ≡ true
ne_to true true h = absurd (h refl)
ne_to true false h = refl
ne_to false true h = refl
ne_to false false h = absurd (h refl)

eq_to : (a b : Bool) → a ≡ b → same_bit a b ≡ true
eq_to true true h = refl
eq_to true false h = cc
eq_to false true h = cc
eq_to false false h = refl

quiet_from : (answer : Option Bool) (right : Bool) → is_quiet answer right ≡ true → (answer ≡ None) ⊎ (answer ≡ Some right)
quiet_from None right h = inl refl
quiet_from (Some bit) right h = inr (ap Some (same_bit-equal bit right h))

quiet_to : (answer : Option Bool) (right : Bool) → (answer ≡ None) ⊎ (answer ≡ Some right) → is_quiet answer right ≡ true
quiet_to answer right h =
    ⊎_elim (λ (e : answer ≡ None). ap (λ o. is_quiet o right) e) (λ (e : answer ≡ Some right). ap (λ o. is_quiet o right) e ∙ eq_to right right refl) h

shared_from : (s t u : Bool) → (not s || (t && u)) ≡ true → s ≡ true → (t ≡ true) × (u ≡ true)
shared_from true t u h e = and_parts t u h
shared_from false t u h e = cc

both : (a b : Bool) → a ≡ true → b ≡ true → (a && b) ≡ true
both true true h k = refl
both true false h k = cc
both false b h k = cc

shared_to : (s t u : Bool) → (s ≡ true → (t ≡ true) × (u ≡ true)) → (not s || (t && u)) ≡ true
shared_to false t u h = refl
shared_to true t u h = let parts = h refl in both t u parts.0 parts.1

from_test : (link : Link) → IsPrimitive link.first → IsPrimitive link.second → linked_test link ≡ true → IsLinked link
from_test link first second h =
    let acts : Bool = has_act link.first && has_act link.second in
    let halves = and_parts (acts && leaves_wrong link) (hides_wrong_bit link && can_share link) h in
    let begins = and_parts acts (leaves_wrong link) halves.0 in
    let act = and_parts (has_act link.first) (has_act link.second) begins.0 in
    let wrong = and_parts (not (same_bit link.first.after (good_after link.first.vic.act link.first.vic.state))) (is_quiet link.first.answer link.first.vic.state) begins.1 in
    let ends = and_parts (hides_wrong_bit link) (can_share link) halves.1 in
    let finds : Bool = same_bit link.second.vic.state link.first.after && not (same_bit link.second.after link.first.after) in
    let hides = and_parts finds (is_quiet link.second.answer link.second.after) ends.0 in
    let found = and_parts (same_bit link.second.vic.state link.first.after) (not (same_bit link.second.after link.first.after)) hides.0 in
    record {
      first = first;
      second = second;
      first_acts = act.0;
      second_acts = act.1;
      wrong = ne_from _ _ wrong.0;
      untold = quiet_from _ _ wrong.1;
      finds = same_bit-equal _ _ found.0;
      hides = ne_from _ _ found.1;
      quiet = quiet_from _ _ hides.1;
      shared = shared_from link.is_shared (has_aggressor link.first) (has_aggressor link.second) ends.1;
    }

to_test : (link : Link) → IsLinked link → linked_test link ≡ true
to_test link is =
    let finds : Bool = same_bit link.second.vic.state link.first.after && not (same_bit link.second.after link.first.after) in
    both ((has_act link.first && has_act link.second) && leaves_wrong link) (hides_wrong_bit link && can_share link)
    (both (has_act link.first && has_act link.second) (leaves_wrong link) (both (has_act link.first) (has_act link.second) is.first_acts is.second_acts)
    (both (not (same_bit link.first.after (good_after link.first.vic.act link.first.vic.state))) (is_quiet link.first.answer link.first.vic.state)
    (ne_to _ _ is.wrong) (quiet_to _ _ is.untold)))
    (both (hides_wrong_bit link) (can_share link)
    (both finds (is_quiet link.second.answer link.second.after)
    (both (same_bit link.second.vic.state link.first.after) (not (same_bit link.second.after link.first.after)) (eq_to _ _ is.finds) (ne_to _ _ is.hides)) (quiet_to _ _ is.quiet))
    (shared_to link.is_shared (has_aggressor link.first) (has_aggressor link.second) is.shared))

pub test_tells : (link : Link) → IsPrimitive link.first → IsPrimitive link.second → (b : Bool) → b ≡ linked_test link → (b ≡ true) ↔ IsLinked link
test_tells link first second b e = (λ h. from_test link first second (sym e ∙ h), λ is. e ∙ to_test link is)
