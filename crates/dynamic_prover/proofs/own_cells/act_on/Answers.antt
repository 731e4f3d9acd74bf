use Rattle.std.proofs.Common.{ap, ◌∙◌}
use Rattle.fault_core.specs.declared.cells.Places.{Places}
use Rattle.dynamic_core.specs.Dynamic.{dyn_step, dyn_answer}
use Rattle.dynamic_prover.proofs.Alone.{held_by, acted_alone, answered_alone}
use Rattle.dynamic_prover.proofs.own_cells.act_on.Goals as goal

pub returns-clause-own : goal.returns-clause-own
returns-clause-own c =
    acted_alone c.args.prim.now c.args.start c.args.on c.args.act c.place_of.result c.step_dynamic-answer.new.cells c.step_dynamic-answer.new.armed c.place_of.ensures.value
    (c.step_dynamic-answer.ensures.cells ∙ ap (λ (at : Places). (dyn_step c.args.prim.now at (held_by c.args.start) c.place_of.result c.args.act).cells) c.two_places.ensures)
    (c.step_dynamic-answer.ensures.armed ∙ ap (λ (at : Places). (dyn_step c.args.prim.now at (held_by c.args.start) c.place_of.result c.args.act).armed) c.two_places.ensures)

pub returns-clause-answer : goal.returns-clause-answer
returns-clause-answer c =
    answered_alone c.args.prim.now c.args.start c.args.on c.args.act c.place_of.result c.step_dynamic-answer.result c.place_of.ensures.value
    (c.step_dynamic-answer.ensures.answer ∙ ap (λ (at : Places). dyn_answer c.args.prim.now at (held_by c.args.start) c.place_of.result c.args.act) c.two_places.ensures)
