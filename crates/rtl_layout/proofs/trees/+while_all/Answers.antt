use Rattle.std.proofs.Common.{rules, ◌≡◌, IfOk, subst}
use Rattle.verilog_tree.specs.Plain.{plain, Expression}
use Rattle.rtl_layout.proofs.Taken.{step_taken}
use Rattle.rtl_layout.proofs.trees.+while_all.Goals as goal

pub returns-in_ok-inner-in-len1-up : goal.returns-in_ok-inner-in-len1-up
returns-in_ok-inner-in-len1-up t c =
    subst (λ (v : Expression). IfOk c.choose.result (λ x. plain x ≡ v))
    (step_taken c.args.conditions.now c.first-item.result (plain c.args.stepped) c.net-condition.result c.in_ok-inner-in-len1-up.inner c.net.result c.args.kept.bytes (search rules) (search rules) c.net-condition.ensures c.net.ensures c.in_ok-inner-in-len1-up.ensures)
    c.choose.ensures
