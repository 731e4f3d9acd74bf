use Rattle.std.proofs.Common.{◌≡◌, ◌+◌, ◌-◌, true, Some, None, refl, ap, sym, ◌∙◌, ⊎_elim, arith}
use Rattle.march_core.specs.Visits.{Downward}
use Rattle.pair_tracker.specs.DeadEnds.{is_dead}
use Rattle.pair_tracker.specs.Ways.{word_by, word_behind}
use Rattle.pair_tracker.proofs.WordSteps.{length-from, search_step, word_room}
use Rattle.pair_tracker.proofs.search.+word_from.Goals as goal

pub returns-in-Some-clause-word : goal.returns-in-Some-clause-word
returns-in-Some-clause-word g t c =
    let W = g.W.Ways in
    let w = c.args.ways.now in
    let i = c.args.i in
    let first = c.requires.from.first i (omega (arith, c.if-i-count.false, c.count.ensures)) in
    let down = W.lead w first.0 c.in_ok-state.state Downward in
    search_step (W.wanted w) (W.lead w) i first.0 (W.from w (i + 1)) (W.from w i) c.in_ok-state.state c.args.start c.lead-up.result down
    (Some c.in-Some.word) (word_behind (word_by (W.wanted w) (W.lead w) (i + 1) (W.from w (i + 1))) down)
    first.1 c.in_ok-state.was (c.lead-up.ensures first.0 first.1) refl c.in-Some.ensures.word refl

pub overflow_add-result : goal.overflow_add-result
overflow_add-result g t c =
    let W = g.W.Ways in
    let w = c.args.ways.now in
    let i = c.args.i in
    let n = W.count w - (i + 1) in
    let count = length-from (W.count w) (W.from w) c.requires.from n (i + 1) (omega (arith, c.if-i-count.false, c.count.ensures)) in
    omega (
      arith,
      word_room (W.wanted w) (W.lead w) i (W.from w (i + 1)) c.lead-down.result c.in-Some-word_from.word c.weight_of.result
          (omega (arith, count, c.if-i-count.false, c.count.ensures, c.requires.from.few)) c.in-Some-word_from.ensures.word c.weight_of.ensures,
    )

pub returns-in-Some-word_from-clause-word : goal.returns-in-Some-word_from-clause-word
returns-in-Some-word_from-clause-word g t c =
    let W = g.W.Ways in
    let w = c.args.ways.now in
    let i = c.args.i in
    let first = c.requires.from.first i (omega (arith, c.if-i-count.false, c.count.ensures)) in
    ap (λ w. Some (w + c.in-Some-word_from.word)) c.weight_of.ensures
    ∙ search_step (W.wanted w) (W.lead w) i first.0 (W.from w (i + 1)) (W.from w i) c.in_ok-state.state c.args.start c.lead-up.result c.lead-down.result
    None (Some c.in-Some-word_from.word) first.1 c.in_ok-state.was (c.lead-up.ensures first.0 first.1) (c.lead-down.ensures first.0 first.1)
    c.in_default.ensures.word c.in-Some-word_from.ensures.word

pub returns-clause-word : goal.returns-clause-word
returns-clause-word g t c =
    let W = g.W.Ways in
    let w = c.args.ways.now in
    let i = c.args.i in
    let first = c.requires.from.first i (omega (arith, c.if-i-count.false, c.count.ensures)) in
    search_step (W.wanted w) (W.lead w) i first.0 (W.from w (i + 1)) (W.from w i) c.in_ok-state.state c.args.start c.lead-up.result c.lead-down.result None None
    first.1 c.in_ok-state.was (c.lead-up.ensures first.0 first.1) (c.lead-down.ensures first.0 first.1) c.in_default.ensures.word c.in_default-word_from.ensures.word

pub returns-clause-dead : goal.returns-clause-dead
returns-clause-dead g t c = λ i q dead.
    let W = g.W.Ways in
    let w = c.args.ways.now in
    let none = sym (returns-clause-word g t c ∙ ap (word_behind (word_by (W.wanted w) (W.lead w) c.args.i (W.from w c.args.i))) c.in_ok-state.was) in
    ⊎_elim
    (λ (h : is_dead c.word_from-2.new.dead_ends i (W.number q) ≡ true). c.in_default-word_from.ensures.dead i q h)
    (λ (h : (i ≡ c.args.i) × (W.number q ≡ c.number-2.result)).
    ap (λ k. word_by (W.wanted w) (W.lead w) k (W.from w k) q) h.0
    ∙ ap (λ r. word_by (W.wanted w) (W.lead w) c.args.i (W.from w c.args.i) r) (g.met.W.Ways.tells q c.in_ok-state.state (h.1 ∙ c.number-2.ensures.number)) ∙ none)
    (c.insert.ensures.only i (W.number q) (g.met.W.Ways.few q) dead)
