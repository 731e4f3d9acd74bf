use Rattle.std.proofs.Common.{◌∙◌, ap, sym, ◌&&◌}
use Rattle.sequence_faults.specs.Primitive.{parts_of}
use Rattle.sequence_faults.specs.inner.Testing.{answers_well, goes_wrong}
use Rattle.sequence_faults.proofs.primitive.is_fault.Goals as goal

pub returns-then-not-are_parts-clause-test : goal.returns-then-not-are_parts-clause-test
returns-then-not-are_parts-clause-test c =
    let p = parts_of c.args.states.now c.args.actor c.args.acts.now c.args.after c.args.answer in
    sym (ap (λ b. b && (answers_well p && goes_wrong p)) (sym (c.are_parts.ensures.parts c.args.after c.args.answer) ∙ c.if-not-are_parts.true))

pub returns-then-answers_well-clause-test : goal.returns-then-answers_well-clause-test
returns-then-answers_well-clause-test c =
    let p = parts_of c.args.states.now c.args.actor c.args.acts.now c.args.after c.args.answer in
    c.goes_wrong.ensures
    ∙ sym (ap (λ b. b && (answers_well p && goes_wrong p)) (sym (c.are_parts.ensures.parts c.args.after c.args.answer) ∙ c.if-not-are_parts.false)
    ∙ ap (λ b. b && goes_wrong p) (sym (c.answers_well.ensures c.args.after) ∙ c.if-answers_well.true))

pub returns-else-answers_well-clause-test : goal.returns-else-answers_well-clause-test
returns-else-answers_well-clause-test c =
    let p = parts_of c.args.states.now c.args.actor c.args.acts.now c.args.after c.args.answer in
    c.if-answers_well.false
    ∙ sym (ap (λ b. b && (answers_well p && goes_wrong p)) (sym (c.are_parts.ensures.parts c.args.after c.args.answer) ∙ c.if-not-are_parts.false)
    ∙ ap (λ b. b && goes_wrong p) (sym (c.answers_well.ensures c.args.after) ∙ c.if-answers_well.false))
