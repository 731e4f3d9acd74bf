use Rattle.std.proofs.Common.{◌≡◌, ℕ, ◌<◌, ◌∙◌, ap, sym, subst, cond, is_ok, true, not, List, ◌++◌, ◌∷◌, []}
use Rattle.report.specs.declared.judged.JudgedItem.{JudgedItem}
use Rattle.report.proofs.PlainItems.{one_more, all_of}
use Rattle.report.proofs.verdicts.with_verdicts.Goals as goal

pub loop-i-preserved : goal.loop-i-preserved
loop-i-preserved c =
    let held : List JudgedItem = c.loop-i.judged.items in
    let last : List JudgedItem = JudgedItem.Plain c.index-prims-i.result c.index-verdicts-i.result ∷ [] in
    let pushed : is_ok c.push.result ≡ true = c.is_err.ensures.negation ∙ ap not c.if-is_err.false in
    let items : c.push.new.self.items ≡ held ++ last = c.push.ensures.items ∙ ap (λ b. cond b (held ++ last) held) pushed in
    items ∙ ap (λ l. l ++ last) c.loop-i.invariant
    ∙ sym (one_more c.args.prims.now c.args.verdicts.now c.loop-i.i c.index-prims-i.result c.index-verdicts-i.result c.requires c.loop-i-test.true
    c.index-prims-i.is c.index-verdicts-i.is)

pub loop-i-init : goal.loop-i-init
loop-i-init c = c.new-judged.ensures.items

pub bounds-verdicts-i : goal.bounds-verdicts-i
bounds-verdicts-i c = subst (λ (n : ℕ). c.loop-i.i < n) c.requires c.loop-i-test.true

pub returns : goal.returns
returns c = c.loop-i.invariant ∙ all_of c.args.prims.now c.args.verdicts.now c.loop-i.i c.requires c.loop-i-test.false
