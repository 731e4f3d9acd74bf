use Rattle.std.proofs.Common.{◌≡◌, ◌+◌, ◌∙◌, refl, sym, ap, subst, cond, is_ok, true, not, List, ◌++◌, ◌∷◌, [], take}
use Rattle.std.specs.List.{AllByRecursion}
use Rattle.std.proofs.lemmas.List.{take_more, take_all}
use Rattle.dynamic_core.specs.declared.item.Item.{Item}
use Rattle.report.specs.declared.judged.JudgedItem.{JudgedItem}
use Rattle.report.specs.Items.{AreJudged, IsJudged, item_of}
use Rattle.report.proofs.Counts.{one_judged}
use Rattle.report.proofs.judged.judge_items.Goals as goal

pub loop-item-preserved : goal.loop-item-preserved
loop-item-preserved c =
    let march = c.args.march.now in
    let taken : List Item = take c.loop-item.item-index c.args.items.now in
    let held : List JudgedItem = c.loop-item.judged.items in
    let j : JudgedItem = c.judge_once-next.result in
    let pushed : is_ok c.push.result ≡ true = c.is_err.ensures.negation ∙ ap not c.if-is_err.false in
    let grown : c.push.new.self.items ≡ held ++ j ∷ [] = c.push.ensures.items ∙ ap (λ b. cond b (held ++ j ∷ []) held) pushed in
    let more : take (c.loop-item.item-index + 1) c.args.items.now ≡ taken ++ item_of j ∷ [] =
    take_more c.args.items.now c.loop-item.item-index c.item-item.result c.loop-item-test.true ∙ ap (λ i. taken ++ i ∷ []) (sym c.item-item.is ∙ sym c.judge_once-next.ensures.item) in
    let right : IsJudged march j = c.judge_once-next.ensures.judged (subst (AllByRecursion (IsJudged march)) (sym c.as_slice.ensures.value) c.loop-item.invariant.each) in
    subst (λ items. AreJudged march items c.push.new.self.items) (sym more)
    (subst (AreJudged march (taken ++ item_of j ∷ [])) (sym grown) (one_judged march taken held j c.loop-item.invariant right))

pub loop-item-init : goal.loop-item-init
loop-item-init c = subst (AreJudged c.args.march.now []) (sym c.new-judged.ensures.items) (record { each = tt; in_order = refl })

pub returns : goal.returns
returns c =
    subst (λ (items : List Item). AreJudged c.args.march.now items c.loop-item.judged.items) (take_all c.loop-item.item-index c.args.items.now c.loop-item-test.false) c.loop-item.invariant
