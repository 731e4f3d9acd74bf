use Rattle.std.proofs.Common.{ap, ◌∙◌, lit≤, le_trans}
use Rattle.verilog_tree.specs.Plain.{Net, Prefixed}
use Rattle.verilog_tree.specs.declared.tree.UnOp.TheVariants.{Invert}
use Rattle.rtl_layout.specs.Layout as L
use Rattle.rtl_layout.specs.Seen.{seen}
use Rattle.rtl_layout.proofs.Built.{told, chosen, unless_none, when_none}
use Rattle.rtl_layout.proofs.build.want_next.Goals as goal

pub returns : goal.returns
returns c =
    let p = seen c.args.plan.now in
    let back = ap (L.pattern_of p) (c.back_at-back.ensures ∙ ap (λ b. L.back_at b p.delay) c.is_several.ensures) in
    told c.word_of.result _ _
    (chosen _ _ _ _ _ _ (ap Net c.value_at.ensures) (ap (Prefixed Invert) (c.in_ok-double.ensures ∙ back)) (c.in_ok-word.ensures ∙ back)
    ∙ unless_none p.delay (Net L.word) _ c.if-plan-eq0.false)
    c.word_of.ensures

pub name-requires : goal.name-requires
name-requires c = lit≤ tt

pub returns-then-plan-eq0 : goal.returns-then-plan-eq0
returns-then-plan-eq0 c = c.net.ensures ∙ ap Net c.name.ensures ∙ when_none _ _ _ c.if-plan-eq0.true

pub back_at-back-requires : goal.back_at-back-requires
back_at-back-requires c = le_trans c.args.plan.now.is_plan.few_ages (lit≤ tt)

pub value_at-requires : goal.value_at-requires
value_at-requires c = le_trans c.args.plan.now.is_plan.few_ages (lit≤ tt)
