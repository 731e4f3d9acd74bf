use Rattle.std.proofs.Common.{◌≡◌, ◌+◌, Some, None, refl, ap, sym, ◌∙◌, ⊎_elim, subst, arith}
use Rattle.std.specs.List.{All}
use Rattle.std.proofs.lemmas.List.{length-drop}
use Rattle.std.proofs.lemmas.List.Elements.{All-append}
use Rattle.march_core.specs.March.{element_at}
use Rattle.march_core.specs.Visits.{Downward}
use Rattle.pair_tracker.specs.Ways.{word_behind}
use Rattle.pair_tracker.specs.Tracking.{any_end}
use Rattle.pair_tracker.proofs.WordSteps.{search_step, word_room}
use Rattle.std.specs.Prelude.{drop}
use Rattle.sequence_faults.specs.inner.Searching.{lead_at, word_at, IsDead}
use Rattle.sequence_faults.proofs.Turns.{next_element, all_single}
use Rattle.sequence_faults.proofs.search.+word_from.Goals as goal

pub returns-in-Some-clause-word : goal.returns-in-Some-clause-word
returns-in-Some-clause-word t c =
    let march = c.args.march.now in
    let lead = lead_at c.args.prim.now c.args.spots in
    let down = lead (element_at march c.args.i) c.in_ok-state.state Downward in
    search_step any_end lead c.args.i (element_at march c.args.i) (drop (c.args.i + 1) march) (drop c.args.i march) c.in_ok-state.state c.args.start c.end_of-up.result down
    (Some c.in-Some.word) (word_behind (word_at march c.args.prim.now c.args.spots (c.args.i + 1)) down)
    (next_element march c.args.i (omega (arith, c.if-i-len.false, c.len.ensures.value))) c.in_ok-state.was c.end_of-up.ensures refl c.in-Some.ensures.word refl

pub overflow_add-result : goal.overflow_add-result
overflow_add-result t c =
    let march = c.args.march.now in
    omega (
      arith,
      word_room any_end (lead_at c.args.prim.now c.args.spots) c.args.i (drop (c.args.i + 1) march) c.end_of-down.result c.in-Some-word_from.word c.weight_of.result
          (omega (arith, length-drop (c.args.i + 1) march, c.if-i-len.false, c.len.ensures.value, c.known.ensures.elements_within)) c.in-Some-word_from.ensures.word c.weight_of.ensures,
    )

pub returns-in-Some-word_from-clause-word : goal.returns-in-Some-word_from-clause-word
returns-in-Some-word_from-clause-word t c =
    let march = c.args.march.now in
    ap (λ w. Some (w + c.in-Some-word_from.word)) c.weight_of.ensures
    ∙ search_step any_end (lead_at c.args.prim.now c.args.spots) c.args.i (element_at march c.args.i) (drop (c.args.i + 1) march) (drop c.args.i march) c.in_ok-state.state c.args.start
    c.end_of-up.result c.end_of-down.result None (Some c.in-Some-word_from.word)
    (next_element march c.args.i (omega (arith, c.if-i-len.false, c.len.ensures.value))) c.in_ok-state.was c.end_of-up.ensures c.end_of-down.ensures
    c.in_default.ensures.word c.in-Some-word_from.ensures.word

pub returns-clause-word : goal.returns-clause-word
returns-clause-word t c =
    let march = c.args.march.now in
    search_step any_end (lead_at c.args.prim.now c.args.spots) c.args.i (element_at march c.args.i) (drop (c.args.i + 1) march) (drop c.args.i march) c.in_ok-state.state c.args.start
    c.end_of-up.result c.end_of-down.result None None
    (next_element march c.args.i (omega (arith, c.if-i-len.false, c.len.ensures.value))) c.in_ok-state.was c.end_of-up.ensures c.end_of-down.ensures
    c.in_default.ensures.word c.in_default-word_from.ensures.word

pub returns-clause-dead : goal.returns-clause-dead
returns-clause-dead t c =
    let march = c.args.march.now in
    let P = IsDead march c.args.prim.now c.args.spots in
    let none : word_at march c.args.prim.now c.args.spots c.args.i c.in_ok-state.state ≡ None =
    sym (returns-clause-word t c ∙ ap (word_behind (word_at march c.args.prim.now c.args.spots c.args.i)) c.in_ok-state.was) in
    let known = c.in_default-word_from.ensures.dead in
    ⊎_elim (λ h. subst (λ l. All P l) (sym h) known) (λ h. subst (λ l. All P l) (sym h) (All-append P _ _ known (all_single P _ none))) c.insert.ensures
