use Rattle.std.proofs.Common.{[], ◌∷◌, ◌++◌, map, refl, sym, ap, ◌∙◌}
use Rattle.std.proofs.lemmas.Result.{on_ok_weaker}
use Rattle.verilog_tree.specs.Plain.{plain, plain_stmt, plain_stmts, arms}
use Rattle.verilog_tree.specs.inner.Plain.{plain_arm}
use Rattle.verilog_tree.specs.Rules.{reads, statement_mentions, statements_mentions, arms_mentions, AsTarget}
use Rattle.verilog_tree.specs.inner.Seen.{mention}
use Rattle.verilog_tree.proofs.Appended.{two_more, three_more, item_more, items_done}
use Rattle.verilog_tree.proofs.Layers.{plain_set, plain_if, plain_case, arm_body}
use Rattle.verilog_tree.proofs.mentions.+put_stmt.Goals as goal

pub put_stmt-returns-in_ok-put-in-Set : goal.put_stmt-returns-in_ok-put-in-Set
put_stmt-returns-in_ok-put-in-Set t c =
    let out = map mention c.args.out.now.items in
    on_ok_weaker c.put_expr.result (λ e.
    two_more out (map mention c.put.new.out.items) (map mention c.put_expr.new.out.items) (AsTarget c.in-Set.name.bytes ∷ []) (reads (plain c.in-Set.x)) c.in_ok-put-in-Set.ensures e
    ∙ ap (λ s. out ++ statement_mentions s) (sym (ap plain_stmt c.in-Set.is ∙ plain_set c.in-Set.name c.in-Set.x))) c.put_expr.ensures

pub put_stmt-returns-in_ok-put_stmts-in-If : goal.put_stmt-returns-in_ok-put_stmts-in-If
put_stmt-returns-in_ok-put_stmts-in-If t c =
    let out = map mention c.args.out.now.items in
    on_ok_weaker c.put_stmts-in-If.result (λ e.
    three_more out (map mention c.put_expr-in-If.new.out.items) (map mention c.put_stmts.new.out.items) (map mention c.put_stmts-in-If.new.out.items)
    (reads (plain c.in-If.c)) (statements_mentions (plain_stmts c.in-If.a.items)) (statements_mentions (plain_stmts c.in-If.b.items))
    c.in_ok-put_expr-in-If.ensures
    (c.in_ok-put_stmts-in-If.ensures ∙ ap (λ l. map mention c.put_expr-in-If.new.out.items ++ statements_mentions (plain_stmts l)) c.deref.ensures.value)
    (e ∙ ap (λ l. map mention c.put_stmts.new.out.items ++ statements_mentions (plain_stmts l)) c.deref-in-If.ensures.value)
    ∙ ap (λ s. out ++ statement_mentions s) (sym (ap plain_stmt c.in-If.is ∙ plain_if c.in-If.c c.in-If.a c.in-If.b))) c.put_stmts-in-If.ensures

pub put_stmt-loop-arm-init : goal.put_stmt-loop-arm-init
put_stmt-loop-arm-init t c = refl

pub put_stmt-loop-arm-preserved : goal.put_stmt-loop-arm-preserved
put_stmt-loop-arm-preserved t c =
    item_more (λ a. statements_mentions (plain_arm a).body) (λ as'. arms_mentions (arms (map plain_arm as'))) (map mention c.loop-arm.out.items) (map mention c.put_stmts-in-loop-arm.new.out.items) _ c.deref-arm-items.result.now c.loop-arm.arm-index c.arm-item.result (λ y ys. refl)
    c.loop-arm-test.true c.arm-item.is
    (c.in_ok-put_stmts-in-Case.ensures ∙ ap (λ ss. map mention c.loop-arm.out.items ++ statements_mentions ss) (ap plain_stmts c.deref-in-loop-arm.ensures.value ∙ sym (arm_body c.arm-item.result)))
    c.loop-arm.invariant

pub put_stmt-returns-after-loop-arm : goal.put_stmt-returns-after-loop-arm
put_stmt-returns-after-loop-arm t c =
    let out = map mention c.args.out.now.items in
    on_ok_weaker c.put_stmts-in-Case.result (λ e.
    three_more out (map mention c.put_expr-in-Case.new.out.items) (map mention c.loop-arm.out.items) (map mention c.put_stmts-in-Case.new.out.items)
    (reads (plain c.in-Case.x)) (arms_mentions (arms (map plain_arm c.in-Case.choices.items))) (statements_mentions (plain_stmts c.in-Case.other.items))
    c.in_ok-put_expr-in-Case.ensures
    (items_done (λ as'. arms_mentions (arms (map plain_arm as'))) (map mention c.loop-arm.out.items) _ c.deref-arm-items.result.now c.loop-arm.arm-index refl c.loop-arm-test.false c.loop-arm.invariant
    ∙ ap (λ l. map mention c.put_expr-in-Case.new.out.items ++ arms_mentions (arms (map plain_arm l))) c.deref-arm-items.ensures.value)
    (e ∙ ap (λ l. map mention c.loop-arm.out.items ++ statements_mentions (plain_stmts l)) c.deref-in-Case.ensures.value)
    ∙ ap (λ s. out ++ statement_mentions s) (sym (ap plain_stmt c.in-Case.is ∙ plain_case c.in-Case.x c.in-Case.choices c.in-Case.other))) c.put_stmts-in-Case.ensures

pub put_stmts-loop-s-init : goal.put_stmts-loop-s-init
put_stmts-loop-s-init t c = refl

pub put_stmts-loop-s-preserved : goal.put_stmts-loop-s-preserved
put_stmts-loop-s-preserved t c =
    item_more (λ s. statement_mentions (plain_stmt s)) (λ ss. statements_mentions (plain_stmts ss)) (map mention c.loop-s.out.items) (map mention c.put_stmt.new.out.items) _ c.args.body.now c.loop-s.s-index c.s-item.result (λ y ys. refl)
    c.loop-s-test.true c.s-item.is c.in_ok-put_stmt.ensures c.loop-s.invariant

pub put_stmts-returns : goal.put_stmts-returns
put_stmts-returns t c = items_done (λ ss. statements_mentions (plain_stmts ss)) (map mention c.loop-s.out.items) _ c.args.body.now c.loop-s.s-index refl c.loop-s-test.false c.loop-s.invariant
