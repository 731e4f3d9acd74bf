use Rattle.std.proofs.Common.{◌∙◌, sym, refl}
use Rattle.sequence_faults.specs.Primitive.{parts_of}
use Rattle.sequence_faults.proofs.Tests.{test_tells, told_parts}
use Rattle.sequence_faults.proofs.primitive.SeqPrim.new.Goals as goal

pub returns-then-not-is_fault-clause-variant : goal.returns-then-not-is_fault-clause-variant
returns-then-not-is_fault-clause-variant c = (
  λ e. cc,
  λ is. sym c.if-not-is_fault.true ∙ c.is_fault.ensures.test ∙ (test_tells (parts_of c.args.states.now c.args.actor c.args.acts.now c.args.after c.args.answer) c.if-acts-gt16.false).1 is,
)

pub invariant_of-result : goal.invariant_of-result
invariant_of-result c = (
  told_parts c.args.states.now _ c.args.actor c.args.acts.now _ c.args.after c.args.answer c.three_of.ensures.first c.sixteen_of.ensures.first c.if-acts-gt16.false
      (sym c.is_fault.ensures.test ∙ c.if-not-is_fault.false),
  c.three_of.ensures.three,
  c.sixteen_of.ensures.sixteen,
  c.is_fault.ensures.few c.if-not-is_fault.false,
  c.if-acts-gt16.false,
)

pub returns-clause-variant : goal.returns-clause-variant
returns-clause-variant c = (
  λ e. (test_tells (parts_of c.args.states.now c.args.actor c.args.acts.now c.args.after c.args.answer) c.if-acts-gt16.false).0 (sym c.is_fault.ensures.test ∙ c.if-not-is_fault.false),
  λ is. refl,
)
