use Rattle.std.proofs.Common.{[], ◌∷◌, ◌++◌, map, sym, ap, ◌∙◌}
use Rattle.std.proofs.lemmas.Result.{on_ok_weaker}
use Rattle.verilog_tree.specs.Plain.{plain, plain_item, plain_stmts}
use Rattle.verilog_tree.specs.Rules.{reads, statements_mentions, mentions, AsTarget, AsClock}
use Rattle.verilog_tree.specs.inner.Seen.{mention}
use Rattle.verilog_tree.proofs.Appended.{two_more}
use Rattle.verilog_tree.proofs.mentions.put_item.Goals as goal

pub returns-in_ok-put-in-Assign : goal.returns-in_ok-put-in-Assign
returns-in_ok-put-in-Assign c =
    let out = map mention c.args.out.now.items in
    on_ok_weaker c.put_expr.result (λ e.
    two_more out (map mention c.put.new.out.items) (map mention c.put_expr.new.out.items) (AsTarget c.in-Assign.name.bytes ∷ []) (reads (plain c.in-Assign.x)) c.in_ok-put-in-Assign.ensures e
    ∙ ap (λ i. out ++ mentions i) (sym (ap plain_item c.in-Assign.is))) c.put_expr.ensures

pub returns-in_ok-put-in-Always : goal.returns-in_ok-put-in-Always
returns-in_ok-put-in-Always c =
    let out = map mention c.args.out.now.items in
    on_ok_weaker c.put_stmts.result (λ e.
    two_more out (map mention c.put-in-Always.new.out.items) (map mention c.put_stmts.new.out.items) (AsClock c.in-Always.clock.bytes ∷ []) (statements_mentions (plain_stmts c.in-Always.body.items)) c.in_ok-put-in-Always.ensures
    (e ∙ ap (λ l. map mention c.put-in-Always.new.out.items ++ statements_mentions (plain_stmts l)) c.deref.ensures.value)
    ∙ ap (λ i. out ++ mentions i) (sym (ap plain_item c.in-Always.is))) c.put_stmts.ensures
