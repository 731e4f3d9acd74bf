use Rattle.std.proofs.Common.{◌≡◌, Option, Some, sym, subst, ap}
use Rattle.verilog_tree.specs.Plain.{plain}
use Rattle.verilog_tree.specs.Spells.{bounded}
use Rattle.verilog_text.specs.Places.{State}
use Rattle.verilog_tree.specs.Marked.{infix_of}
use Rattle.verilog_read.specs.inner.Answers.{Goes}
use Rattle.verilog_read.specs.inner.Frames.{alone_of}
use Rattle.verilog_read.specs.inner.Holding.{token_of, nests_of}
use Rattle.verilog_read.specs.inner.Waiting.{lefts_of}
use Rattle.verilog_read.proofs.HoldingLemmas.{linked_is}
use Rattle.verilog_read.proofs.precedence.after_operand.Goals as goal

pub returns-in-Some : goal.returns-in-Some
returns-in-Some c =
    let w = c.args.outer.now in
    let o = nests_of w.nests.items (alone_of w) in
    let f : infix_of c.in-Sign.mark ≡ Some c.in-Some.op = cc in
    subst (λ (s : Option State). Goes s c.joined_by.result w) (sym (linked_is bounded c.args.depth c.args.chain.count (plain c.args.x) (plain c.in_ok-x.x) (lefts_of c.args.chain.lefts.items) c.args.chain.mark o (token_of c.args.token.now) c.in-Sign.mark c.in-Some.op (ap token_of c.in-Sign.is) f c.in_ok-x.ensures.value)) (c.joined_by.ensures w)
