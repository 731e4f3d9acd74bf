use Rattle.std.proofs.Common.{◌≡◌, ◌+◌, ◌∙◌, refl, sym, ap, subst, cond, is_ok, true, not, List, ◌++◌, ◌∷◌, [], take}
use Rattle.std.proofs.lemmas.List.{take_more, take_all}
use Rattle.linked_faults.specs.declared.link.Link.{Link}
use Rattle.linked_report.specs.declared.judged.JudgedLink.{JudgedLink}
use Rattle.linked_report.specs.Links.{AreJudgedLinks, IsJudgedLink}
use Rattle.linked_report.proofs.JudgedLinks.{one_link_more}
use Rattle.linked_report.proofs.judged.judge_links.Goals as goal

pub loop-link-preserved : goal.loop-link-preserved
loop-link-preserved c =
    let march = c.args.march.now in
    let taken : List Link = take c.loop-link.link-index c.args.links.now in
    let held : List JudgedLink = c.loop-link.judged.items in
    let j : JudgedLink = record { link = c.link-item.result; escape = c.least_linked_escape.result } in
    let pushed : is_ok c.push.result ≡ true = c.is_err.ensures.negation ∙ ap not c.if-is_err.false in
    let grown : c.push.new.self.items ≡ held ++ j ∷ [] = c.push.ensures.items ∙ ap (λ b. cond b (held ++ j ∷ []) held) pushed in
    let more : take (c.loop-link.link-index + 1) c.args.links.now ≡ taken ++ j.link ∷ [] =
    take_more c.args.links.now c.loop-link.link-index c.link-item.result c.loop-link-test.true ∙ ap (λ i. taken ++ i ∷ []) (sym c.link-item.is) in
    let right : IsJudgedLink march j = c.least_linked_escape.ensures.verdict in
    subst (λ links. AreJudgedLinks march links c.push.new.self.items) (sym more)
    (subst (AreJudgedLinks march (taken ++ j.link ∷ [])) (sym grown) (one_link_more march taken held j c.loop-link.invariant right))

pub loop-link-init : goal.loop-link-init
loop-link-init c = subst (AreJudgedLinks c.args.march.now []) (sym c.new-judged.ensures.items) (record { each = tt; in_order = refl })

pub returns : goal.returns
returns c =
    subst (λ (links : List Link). AreJudgedLinks c.args.march.now links c.loop-link.judged.items) (take_all c.loop-link.link-index c.args.links.now c.loop-link-test.false) c.loop-link.invariant
