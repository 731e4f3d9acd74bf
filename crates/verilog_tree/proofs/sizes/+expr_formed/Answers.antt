use Rattle.std.proofs.Common.{◌≡◌, ℕ, ◌+◌, ◌<◌, Bool, true, false, not, ◌&&◌, List, map, length, drop, get_or, Box, Global, refl, ap, sym, ◌∙◌}
use Rattle.std.proofs.lemmas.Bool.{and_right}
use Rattle.std.proofs.lemmas.List.{at_drop_all}
use Rattle.std.proofs.Math.Bool.{and-true}
use Rattle.verilog_tree.specs.declared.tree.BinOp.{BinOp}
use Rattle.verilog_tree.specs.declared.tree.Expr.{Expr}
use Rattle.verilog_tree.specs.declared.tree.Expr as E
use Rattle.verilog_tree.specs.Plain.{plain, expressions}
use Rattle.verilog_tree.specs.Formed.{expression_formed, expressions_formed, has_expression}
use Rattle.verilog_tree.proofs.InOrder.{at_item, and_then, and_else}
use Rattle.verilog_tree.proofs.Layers.{plain_unary, plain_binary, plain_choose}
use Rattle.verilog_tree.proofs.Lists.{some_expression}
use Rattle.verilog_tree.proofs.sizes.+expr_formed.Goals.{expr_formed-then-expr_formed-2, expr_formed-else-expr_formed-2}
use Rattle.verilog_tree.proofs.sizes.+expr_formed.Goals as goal

-- the tests of two and three operands, one behind another
binary_formed : (x : Expr) (o : BinOp) (y z : Box Expr Global) (t u : Bool) → x ≡ E.Binary o y z → t ≡ expression_formed (plain y.value) → u ≡ (t && expression_formed (plain z.value)) → u ≡ expression_formed (plain x)
binary_formed x o y z t u is p q = rw (q, p) (sym (ap expression_formed (ap plain is ∙ plain_binary o y z)))

choose_formed : (x : Expr) (c y z : Box Expr Global) (t u v : Bool) → x ≡ E.Choose c y z → t ≡ expression_formed (plain c.value) → u ≡ (t && expression_formed (plain y.value)) → v ≡ (u && expression_formed (plain z.value)) → v ≡ expression_formed (plain x)
choose_formed x c y z t u v is p q r = rw (r, q, p) (sym (ap expression_formed (ap plain is ∙ plain_choose c y z)))

-- a loop's test at a part
at_part : (parts : List Expr) (i : ℕ) (x : Expr) (b whole : Bool) → i < length parts → x ≡ get_or parts i x → b ≡ expression_formed (plain x) → whole ≡ expressions_formed (expressions (map plain (drop i parts))) → whole ≡ (b && expressions_formed (expressions (map plain (drop (i + 1) parts))))
at_part parts i x b whole below at e so_far =
    so_far ∙ at_item (λ xs. expressions_formed (expressions (map plain xs))) parts i x below at ∙ ap (λ t. t && expressions_formed (expressions (map plain (drop (i + 1) parts)))) (sym e)

pub expr_formed-returns-in-Unary : goal.expr_formed-returns-in-Unary
expr_formed-returns-in-Unary t c =
    c.expr_formed.ensures ∙ ap (λ (x : Expr). expression_formed (plain x)) c.deref-in-Unary.ensures ∙ sym (ap expression_formed (ap plain c.in-Unary.is ∙ plain_unary c.in-Unary.field-0 c.in-Unary.a))

pub expr_formed-returns-then-expr_formed : goal.expr_formed-returns-then-expr_formed
expr_formed-returns-then-expr_formed t c =
    binary_formed c.args.x.now c.in-Binary.field-0 c.in-Binary.a c.in-Binary.b c.expr_formed-in-Binary.result c.expr_formed-then-expr_formed.result c.in-Binary.is (c.expr_formed-in-Binary.ensures ∙ ap (λ (x : Expr). expression_formed (plain x)) c.deref-in-Binary.ensures)
    (and_then _ _ _ c.if-expr_formed.true (c.expr_formed-then-expr_formed.ensures ∙ ap (λ (x : Expr). expression_formed (plain x)) c.deref-then-expr_formed.ensures))

pub expr_formed-returns-else-expr_formed : goal.expr_formed-returns-else-expr_formed
expr_formed-returns-else-expr_formed t c =
    binary_formed c.args.x.now c.in-Binary.field-0 c.in-Binary.a c.in-Binary.b c.expr_formed-in-Binary.result c.expr_formed-in-Binary.result c.in-Binary.is (c.expr_formed-in-Binary.ensures ∙ ap (λ (x : Expr). expression_formed (plain x)) c.deref-in-Binary.ensures)
    (and_else _ _ _ c.if-expr_formed.false refl)

pub expr_formed-returns-then-expr_formed-3 : goal.expr_formed-returns-then-expr_formed-3
expr_formed-returns-then-expr_formed-3 t c =
    choose_formed c.args.x.now c.in-Choose.c c.in-Choose.a c.in-Choose.b c.expr_formed-in-Choose.result c.if-expr_formed-2.value c.expr_formed-then-expr_formed-3.result c.in-Choose.is (c.expr_formed-in-Choose.ensures ∙ ap (λ (x : Expr). expression_formed (plain x)) c.deref-in-Choose.ensures)
    (elim c.if-expr_formed-2.branch [
      | expr_formed-then-expr_formed-2 w ↦ and_then _ _ _ w.if-expr_formed-2.true (w.value-is ∙ w.expr_formed-then-expr_formed-2.ensures ∙ ap (λ (x : Expr). expression_formed (plain x)) w.deref-then-expr_formed-2.ensures)
      | expr_formed-else-expr_formed-2 w ↦ and_else _ _ _ w.if-expr_formed-2.false w.value-is
    ])
    (and_then _ _ _ c.if-expr_formed-3.true (c.expr_formed-then-expr_formed-3.ensures ∙ ap (λ (x : Expr). expression_formed (plain x)) c.deref-then-expr_formed-3.ensures))

pub expr_formed-returns-else-expr_formed-3 : goal.expr_formed-returns-else-expr_formed-3
expr_formed-returns-else-expr_formed-3 t c =
    choose_formed c.args.x.now c.in-Choose.c c.in-Choose.a c.in-Choose.b c.expr_formed-in-Choose.result c.if-expr_formed-2.value c.if-expr_formed-2.value c.in-Choose.is (c.expr_formed-in-Choose.ensures ∙ ap (λ (x : Expr). expression_formed (plain x)) c.deref-in-Choose.ensures)
    (elim c.if-expr_formed-2.branch [
      | expr_formed-then-expr_formed-2 w ↦ and_then _ _ _ w.if-expr_formed-2.true (w.value-is ∙ w.expr_formed-then-expr_formed-2.ensures ∙ ap (λ (x : Expr). expression_formed (plain x)) w.deref-then-expr_formed-2.ensures)
      | expr_formed-else-expr_formed-2 w ↦ and_else _ _ _ w.if-expr_formed-2.false w.value-is
    ])
    (and_else _ _ _ c.if-expr_formed-3.false refl)

pub exprs_formed-loop-part-init : goal.exprs_formed-loop-part-init
exprs_formed-loop-part-init t c = refl

pub exprs_formed-returns-then-not-expr_formed : goal.exprs_formed-returns-then-not-expr_formed
exprs_formed-returns-then-not-expr_formed t c = sym (and_right _ _ (at_part c.args.parts.now c.loop-part.part-index c.part-item.result false _ c.loop-part-test.true c.part-item.is c.if-not-expr_formed.ensures c.loop-part.invariant))

pub exprs_formed-loop-part-preserved : goal.exprs_formed-loop-part-preserved
exprs_formed-loop-part-preserved t c = at_part c.args.parts.now c.loop-part.part-index c.part-item.result true _ c.loop-part-test.true c.part-item.is c.if-not-expr_formed.ensures c.loop-part.invariant

pub exprs_formed-returns : goal.exprs_formed-returns
exprs_formed-returns t c =
    let trees = expressions (map plain c.args.parts.now) in
    ap not c.is_empty.ensures
    ∙ sym (some_expression c.args.parts.now)
    ∙ sym (and-true (has_expression trees))
    ∙ ap (λ b. has_expression trees && b) (sym (c.loop-part.invariant ∙ at_drop_all (λ xs. expressions_formed (expressions (map plain xs))) c.args.parts.now c.loop-part.part-index c.loop-part-test.false))
