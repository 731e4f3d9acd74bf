use Rattle.std.proofs.Common.{◌++◌, map, refl, sym, ap, ◌∙◌}
use Rattle.std.proofs.lemmas.Result.{on_ok_weaker}
use Rattle.verilog_tree.specs.declared.tree.Expr.{Expr}
use Rattle.verilog_tree.specs.Plain.{plain, expressions}
use Rattle.verilog_tree.specs.Rules.{reads, all_reads}
use Rattle.verilog_tree.specs.inner.Seen.{mention}
use Rattle.verilog_tree.proofs.Appended.{two_more, three_more, item_more, items_done}
use Rattle.verilog_tree.proofs.Layers.{concat_read, unary_read, plain_binary, plain_choose}
use Rattle.verilog_tree.proofs.mentions.+put_expr.Goals as goal

pub returns-in_ok-put_expr-in-Binary : goal.returns-in_ok-put_expr-in-Binary
returns-in_ok-put_expr-in-Binary t c =
    let out = map mention c.args.out.now.items in
    on_ok_weaker c.put_expr-in-Binary-2.result (λ e.
    two_more out (map mention c.put_expr-in-Binary.new.out.items) (map mention c.put_expr-in-Binary-2.new.out.items) (reads (plain c.in-Binary.a.value)) (reads (plain c.in-Binary.b.value))
    (c.in_ok-put_expr-in-Binary.ensures ∙ ap (λ (x : Expr). out ++ reads (plain x)) c.deref-in-Binary.ensures)
    (e ∙ ap (λ (x : Expr). map mention c.put_expr-in-Binary.new.out.items ++ reads (plain x)) c.deref-in-Binary-2.ensures)
    ∙ ap (λ x. out ++ reads x) (sym (ap plain c.in-Binary.is ∙ plain_binary c.in-Binary.field-0 c.in-Binary.a c.in-Binary.b))) c.put_expr-in-Binary-2.ensures

pub returns-in_ok-put_expr-in-Choose-2 : goal.returns-in_ok-put_expr-in-Choose-2
returns-in_ok-put_expr-in-Choose-2 t c =
    let out = map mention c.args.out.now.items in
    on_ok_weaker c.put_expr-in-Choose-3.result (λ e.
    three_more out (map mention c.put_expr-in-Choose.new.out.items) (map mention c.put_expr-in-Choose-2.new.out.items) (map mention c.put_expr-in-Choose-3.new.out.items)
    (reads (plain c.in-Choose.c.value)) (reads (plain c.in-Choose.a.value)) (reads (plain c.in-Choose.b.value))
    (c.in_ok-put_expr-in-Choose.ensures ∙ ap (λ (x : Expr). out ++ reads (plain x)) c.deref-in-Choose.ensures)
    (c.in_ok-put_expr-in-Choose-2.ensures ∙ ap (λ (x : Expr). map mention c.put_expr-in-Choose.new.out.items ++ reads (plain x)) c.deref-in-Choose-2.ensures)
    (e ∙ ap (λ (x : Expr). map mention c.put_expr-in-Choose-2.new.out.items ++ reads (plain x)) c.deref-in-Choose-3.ensures)
    ∙ ap (λ x. out ++ reads x) (sym (ap plain c.in-Choose.is ∙ plain_choose c.in-Choose.c c.in-Choose.a c.in-Choose.b))) c.put_expr-in-Choose-3.ensures

pub loop-part-preserved : goal.loop-part-preserved
loop-part-preserved t c =
    item_more (λ x. reads (plain x)) (λ xs. all_reads (expressions (map plain xs))) (map mention c.loop-part.out.items) (map mention c.put_expr.new.out.items) _ _ c.loop-part.part-index c.part-item.result (λ y ys. refl)
    c.loop-part-test.true c.part-item.is c.in_ok-put_expr-in-Concat.ensures c.loop-part.invariant

pub loop-part-init : goal.loop-part-init
loop-part-init t c = refl

pub returns-after-loop-part : goal.returns-after-loop-part
returns-after-loop-part t c =
    items_done (λ xs. all_reads (expressions (map plain xs))) (map mention c.loop-part.out.items) _ c.deref-part-items.result.now c.loop-part.part-index refl c.loop-part-test.false c.loop-part.invariant
    ∙ ap (λ x. map mention c.args.out.now.items ++ reads x) (sym (concat_read c.in-Concat.parts c.in-Concat.is c.deref-part-items.ensures.value))

pub returns-in-Unary : goal.returns-in-Unary
returns-in-Unary t c =
    on_ok_weaker c.put_expr-in-Unary.result (λ e. e ∙ ap (λ x. map mention c.args.out.now.items ++ reads x) (sym (unary_read c.in-Unary.field-0 c.in-Unary.a c.in-Unary.is c.deref.ensures))) c.put_expr-in-Unary.ensures
