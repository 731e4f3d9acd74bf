use Rattle.std.proofs.Common.{◌≡◌, ◌∙◌, sym, ap, subst, cond, is_ok, true, not, List, ◌++◌, ◌∷◌, [], take}
use Rattle.std.proofs.lemmas.List.{take_more}
use Rattle.fault_core.specs.Primitive.{Primitive}
use Rattle.coverage.specs.declared.verdict.Verdict.{Verdict}
use Rattle.coverage.specs.Verdicts.{AreVerdicts}
use Rattle.coverage.proofs.Judged.{one_more}
use Rattle.coverage.proofs.judging.judge_all.Goals as goal

pub loop-prim-preserved : goal.loop-prim-preserved
loop-prim-preserved c =
    let march = c.args.march.now in
    let taken : List Primitive = take c.loop-prim.prim-index c.args.prims.now in
    let held : List Verdict = c.loop-prim.verdicts.items in
    let pushed : is_ok c.push.result ≡ true = c.is_err.ensures.negation ∙ ap not c.if-is_err.false in
    let items : c.push.new.self.items ≡ held ++ c.judge.result ∷ [] =
    c.push.ensures.items ∙ ap (λ b. cond b (held ++ c.judge.result ∷ []) held) pushed in
    let more = take_more c.args.prims.now c.loop-prim.prim-index c.prim-item.result c.loop-prim-test.true ∙ ap (λ p. taken ++ p ∷ []) (sym c.prim-item.is) in
    subst (λ ps. AreVerdicts march ps c.push.new.self.items) (sym more)
    (subst (AreVerdicts march (taken ++ c.prim-item.result ∷ [])) (sym items)
    (one_more march taken held c.prim-item.result c.judge.result c.loop-prim.invariant c.judge.ensures.verdict))
