use Rattle.std.proofs.Common.{◌≡◌, ◌∙◌, ℕ, true, false, List, [], ◌∷◌, ◌++◌, Option, Some, subst, sym, ap}
use Rattle.verilog_tree.specs.Plain.{Expression, plain}
use Rattle.verilog_tree.specs.Tokens.{Token}
use Rattle.verilog_tree.specs.declared.tokens.Mark.TheVariants.{Close, Colon}
use Rattle.verilog_text.specs.declared.count.Count.{Count}
use Rattle.verilog_text.specs.Places.{Alone, State, AtExpr, Have, Linked}
use Rattle.verilog_text.specs.Steps.{close_step}
use Rattle.verilog_read.specs.declared.precedence.Nest.{Nest}
use Rattle.verilog_read.specs.inner.Answers.{Goes}
use Rattle.verilog_read.specs.inner.Frames.{alone_of}
use Rattle.verilog_read.specs.inner.Holding.{nest, nests_of, token_of}
use Rattle.verilog_read.specs.inner.Waiting.{lefts_of}
use Rattle.verilog_read.proofs.HoldingLemmas.{nests_push, expected}
use Rattle.verilog_read.proofs.precedence.close.Goals as goal

-- the innermost is off
off : (d : ℕ) (n : Count) (x : Expression) (t : Token) (ns ms : List Nest) (h k : Nest) (b : Alone) (s : Option State) → ns ≡ ms ++ h ∷ [] → h ≡ k → close_step d n x (nests_of ns b) t ≡ s → s ≡ close_step d n x (nest k (nests_of ms b)) t
off d n x t ns ms h k b s e f g = sym g ∙ ap (λ xs. close_step d n x (nests_of xs b) t) e ∙ ap (λ o. close_step d n x o t) (nests_push ms h b ∙ ap (λ j. nest j (nests_of ms b)) f)

pub returns-in-List : goal.returns-in-List
returns-in-List c = subst (λ (s : Option State). Goes s c.in_list.result c.in_list.new.outer) (sym (off c.args.depth c.args.count (plain c.loop-around.last) (token_of c.args.token.now) c.loop-around.outer.nests.items c.pop.new.self.items c.in-Some.around _ (alone_of c.loop-around.outer) _ c.in-Some.ensures.items c.in-List.is c.loop-around.invariant)) c.in_list.ensures

pub returns-then-not-is_mark : goal.returns-then-not-is_mark
returns-then-not-is_mark c = off c.args.depth c.args.count (plain c.loop-around.last) (token_of c.args.token.now) c.loop-around.outer.nests.items c.pop.new.self.items c.in-Some.around _ (alone_of c.loop-around.outer) _ c.in-Some.ensures.items c.in-Round.is c.loop-around.invariant ∙ expected Close _ (token_of c.args.token.now) false (sym c.is_mark.ensures ∙ c.if-not-is_mark.true)

pub returns-in-Round : goal.returns-in-Round
returns-in-Round c =
    let w = c.loop-around.outer in
    let o = nests_of c.pop.new.self.items (alone_of w) in
    off c.args.depth c.args.count (plain c.loop-around.last) (token_of c.args.token.now) w.nests.items c.pop.new.self.items c.in-Some.around _ (alone_of w) _ c.in-Some.ensures.items c.in-Round.is c.loop-around.invariant
    ∙ expected Close _ (token_of c.args.token.now) true (sym c.is_mark.ensures ∙ c.if-not-is_mark.false)
    ∙ ap (λ n. Some (AtExpr (Have c.in-Round.above (plain c.loop-around.last) (Linked n (lefts_of c.in-Round.chain.lefts.items) c.in-Round.chain.mark o)))) (sym c.behind-chain.ensures)

pub returns-then-not-is_mark-2 : goal.returns-then-not-is_mark-2
returns-then-not-is_mark-2 c = off c.args.depth c.args.count (plain c.loop-around.last) (token_of c.args.token.now) c.loop-around.outer.nests.items c.pop.new.self.items c.in-Some.around _ (alone_of c.loop-around.outer) _ c.in-Some.ensures.items c.in-IfTrue.is c.loop-around.invariant ∙ expected Colon _ (token_of c.args.token.now) false (sym c.is_mark-in-IfTrue.ensures ∙ c.if-not-is_mark-2.true)

pub returns-in-IfTrue : goal.returns-in-IfTrue
returns-in-IfTrue c = subst (λ (s : Option State). Goes s c.begin_nested.result c.begin_nested.new.outer) (sym (off c.args.depth c.args.count (plain c.loop-around.last) (token_of c.args.token.now) c.loop-around.outer.nests.items c.pop.new.self.items c.in-Some.around _ (alone_of c.loop-around.outer) _ c.in-Some.ensures.items c.in-IfTrue.is c.loop-around.invariant ∙ expected Colon _ (token_of c.args.token.now) true (sym c.is_mark-in-IfTrue.ensures ∙ c.if-not-is_mark-2.false))) c.begin_nested.ensures

pub loop-around-preserved : goal.loop-around-preserved
loop-around-preserved c =
    let w = c.loop-around.outer in
    ap (λ x. close_step c.args.depth c.args.count x (nests_of c.pop.new.self.items (alone_of w)) (token_of c.args.token.now)) c.in_ok-last-in-IfFalse.ensures
    ∙ sym (off c.args.depth c.args.count (plain c.loop-around.last) (token_of c.args.token.now) w.nests.items c.pop.new.self.items c.in-Some.around _ (alone_of w) _ c.in-Some.ensures.items c.in-IfFalse.is c.loop-around.invariant)
