use Rattle.std.proofs.Common.{◌≡◌, ◌∙◌, None, length, ap, sym, subst}
use Rattle.cell_machine.specs.Pairs.{pair_close}
use Rattle.pair_tracker.specs.Legs.{Leg}
use Rattle.pair_tracker.specs.Pairs.{machine_of, sides_in}
use Rattle.pair_tracker.specs.Survivors.{IsLeastWord}
use Rattle.pair_tracker.specs.Tracking.{is_below}
use Rattle.pair_tracker.specs.Reached.{is_wanted, word_to}
use Rattle.pair_tracker.proofs.Ends.{least_through}
use Rattle.pair_tracker.proofs.summary.Summary.least_word.Goals as goal

pub returns-clause-word : goal.returns-clause-word
returns-clause-word c =
    let inside = c.self.inside in
    let start = c.close-start.ensures.pair ∙ ap (pair_close inside.prim) c.start_of.ensures.pair in
    let word = subst (λ (leg : Leg). c.word.result ≡ word_to (is_wanted None) (machine_of leg.prim) (sides_in (is_below leg.placement)) leg.march leg.first leg.end c.close-start.result)
    (sym c.self.view_is) c.word.ensures.word in
    subst (λ (leg : Leg). IsLeastWord leg.march leg.prim leg.placement c.args.content c.word.result) c.self.view_is
    (least_through inside.march.now inside.prim inside.placement inside.first inside.end c.args.content c.word.result
    (ap (λ (leg : Leg). leg.first) c.self.view_is ∙ c.requires.first)
    (ap (λ (leg : Leg). leg.end) c.self.view_is ∙ c.requires.last ∙ ap (λ (leg : Leg). length leg.march) (sym c.self.view_is))
    c.self.invariant c.start_of.ensures.cells
    (word ∙ ap (λ q. word_to (is_wanted None) (machine_of inside.prim) (sides_in (is_below inside.placement)) inside.march.now inside.first inside.end q) start))
