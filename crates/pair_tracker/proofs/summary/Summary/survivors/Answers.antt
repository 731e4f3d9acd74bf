use Rattle.std.proofs.Common.{◌∙◌, length, ap, sym, subst}
use Rattle.cell_machine.specs.Pairs.{pair_close}
use Rattle.pair_tracker.specs.Legs.{Leg, AreLegEnds, elements_between}
use Rattle.pair_tracker.specs.Placements.{pair_in}
use Rattle.pair_tracker.specs.Survivors.{AreSurvivors}
use Rattle.pair_tracker.specs.Tables.{tables_at, AreComposed}
use Rattle.pair_tracker.proofs.Ends.{whole_survivors}
use Rattle.pair_tracker.proofs.Passing.{all_between}
use Rattle.pair_tracker.proofs.summary.Summary.survivors.Goals as goal

pub returns-clause-value : goal.returns-clause-value
returns-clause-value c =
    let inside = c.self.inside in
    let found = c.ends.result.items in
    let start = c.close.ensures.pair ∙ ap (pair_close inside.prim) c.start_of.ensures.pair in
    subst (λ (leg : Leg). AreSurvivors leg.march leg.prim leg.placement c.args.content found) c.self.view_is
    (whole_survivors inside.march.now inside.prim inside.placement inside.first inside.end c.args.content found
    (ap (λ (leg : Leg). leg.first) c.self.view_is ∙ c.requires.first)
    (ap (λ (leg : Leg). leg.end) c.self.view_is ∙ c.requires.last ∙ ap (λ (leg : Leg). length leg.march) (sym c.self.view_is))
    c.self.invariant c.start_of.ensures.cells
    (subst (λ q. AreLegEnds inside.march.now inside.prim inside.placement inside.first inside.end q found) start
    (subst (λ (leg : Leg). AreLegEnds leg.march leg.prim leg.placement leg.first leg.end c.close.result found) (sym c.self.view_is) c.ends.ensures.ends)))

pub returns-clause-tables : goal.returns-clause-tables
returns-clause-tables c =
    let leg = c.args.self.now in
    let found = c.ends.result.items in
    let inside = c.self.inside in
    let start =
    c.close.ensures.pair
    ∙ ap (pair_close inside.prim) c.start_of.ensures.pair
    ∙ ap (λ (leg : Leg). pair_close leg.prim (pair_in leg.placement c.args.content)) c.self.view_is in
    subst (λ q. AreComposed (tables_at leg.prim leg.placement leg.march) q found) start
    (subst (λ es. AreComposed (tables_at leg.prim leg.placement es) c.close.result found)
    (ap (λ i. elements_between leg.march i leg.end) c.requires.first ∙ ap (elements_between leg.march 0) c.requires.last ∙ all_between leg.march)
    c.ends.ensures.tables)
