use Rattle.std.proofs.Common.{◌∙◌, arith}
use Rattle.microcode.proofs.Stepped.{first_at, begins}
use Rattle.microcode.proofs.stepper.Stepper.new.Goals as goal

pub invariant_of-result : goal.invariant_of-result
invariant_of-result c =
    let words = c.requires.words.0 in
    let code = c.requires.code in
    record {
      some = omega arith;
      somewhere = (code.0, first_at code.0 c.as_slice.result.now c.args.words code.1 (c.as_slice.ensures.value ∙ code.2) (omega arith));
    }

pub returns : goal.returns
returns c march m e =
    let words = c.requires.words.0 in
    begins march c.as_slice.result.now c.args.words m (c.as_slice.ensures.value ∙ e) (omega arith)
