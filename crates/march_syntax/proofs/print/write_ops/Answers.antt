use Rattle.std.proofs.Common.{◌++◌, ◌∙◌, append-nil, ap, sym}
use Rattle.march_syntax.proofs.PrintLaws.{no_ops, op_written}
use Rattle.march_syntax.proofs.print.write_ops.Goals as goal

pub loop-i-preserved : goal.loop-i-preserved
loop-i-preserved c =
    op_written c.loop-i.out.items c.separate.new.out.items c.extend_from_slice.new.self.items _ c.args.ops.now c.loop-i.i
    c.in_ok-separate.ensures (c.in_ok-extend_from_slice.ensures.items ∙ ap (λ x. c.separate.new.out.items ++ x) c.op_word.ensures) c.loop-i-test.true c.loop-i.invariant

pub returns : goal.returns
returns c = sym (append-nil _) ∙ ap (λ x. c.loop-i.out.items ++ x) (sym (no_ops c.args.ops.now c.loop-i.i c.loop-i-test.false)) ∙ c.loop-i.invariant
