use Rattle.std.proofs.Common.{◌≡◌, ◌∙◌, ap, sym, subst, arith}
use Rattle.std.proofs.lemmas.List.{take_all}
use Rattle.std.specs.List.{filter_map}
use Rattle.pair_tracker.specs.Legs.{Leg, AreLegEnds, ends_from, elements_between}
use Rattle.pair_tracker.specs.Reached.{all_pairs, with_word, words_from, ends_by}
use Rattle.pair_tracker.specs.Tables.{tables_at, AreComposed}
use Rattle.pair_tracker.proofs.Ends.{ends_are, row_there}
use Rattle.pair_tracker.proofs.Tables.{ends_composed}
use Rattle.pair_tracker.proofs.summary.Summary.ends.Goals as goal

pub returns-clause-value : goal.returns-clause-value
returns-clause-value c =
    let leg = c.args.self.now in
    let inside = c.self.inside in
    c.loop-pair.invariant.found
    ∙ ap (filter_map (with_word (words_from leg.march leg.prim leg.placement leg.first leg.end c.args.start))) (take_all c.loop-pair.pair-index all_pairs (omega (arith, c.loop-pair-test.false)))
    ∙ subst (λ (leg : Leg). ends_by leg.march leg.prim leg.placement leg.first leg.end c.args.start ≡ ends_from leg c.args.start) c.self.view_is
    (sym (row_there inside.march.now inside.prim inside.placement inside.first inside.end c.args.start))

pub returns-clause-ends : goal.returns-clause-ends
returns-clause-ends c =
    let inside = c.self.inside in
    subst (λ (leg : Leg). AreLegEnds leg.march leg.prim leg.placement leg.first leg.end c.args.start c.loop-pair.found.items) c.self.view_is
    (subst (AreLegEnds inside.march.now inside.prim inside.placement inside.first inside.end c.args.start)
    (sym (row_there inside.march.now inside.prim inside.placement inside.first inside.end c.args.start)
    ∙ ap (λ (leg : Leg). ends_from leg c.args.start) c.self.view_is ∙ sym (returns-clause-value c))
    (ends_are inside.march.now inside.prim inside.placement inside.first inside.end c.self.invariant c.args.start))

pub returns-clause-tables : goal.returns-clause-tables
returns-clause-tables c =
    let inside = c.self.inside in
    subst (λ (leg : Leg). AreComposed (tables_at leg.prim leg.placement (elements_between leg.march leg.first leg.end)) c.args.start c.loop-pair.found.items) c.self.view_is
    (subst (AreComposed (tables_at inside.prim inside.placement (elements_between inside.march.now inside.first inside.end)) c.args.start)
    (sym (row_there inside.march.now inside.prim inside.placement inside.first inside.end c.args.start)
    ∙ ap (λ (leg : Leg). ends_from leg c.args.start) c.self.view_is ∙ sym (returns-clause-value c))
    (ends_composed inside.march.now inside.prim inside.placement inside.first inside.end c.args.start))
