use Rattle.std.proofs.Common.{subst, sym}
use Rattle.fault_syntax.specs.PrimText.{PrimText}
use Rattle.fault_syntax.proofs.PrintLaws.{parts, parts_stand, printed_text}
use Rattle.fault_syntax.proofs.print.print_prim.Goals as goal

pub returns-clause-read_back : goal.returns-clause-read_back
returns-clause-read_back c = (parts c.args.prim.now, subst (λ b. PrimText b (parts c.args.prim.now)) (sym c.prim_text.ensures.form) (printed_text c.args.prim.now), parts_stand c.args.prim.now, c.prim_text.ensures.primitive)
