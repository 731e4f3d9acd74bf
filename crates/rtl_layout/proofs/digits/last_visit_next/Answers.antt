use Rattle.std.proofs.Common.{◌<◌, length, nat_eq, refl, sym, ap, ◌∙◌, subst}
use Rattle.verilog_tree.specs.Meaning.{bit}
use Rattle.verilog_tree.specs.Plain.{Net}
use Rattle.rtl_layout.specs.Build.{lit}
use Rattle.rtl_layout.specs.Control.{nothing}
use Rattle.rtl_layout.specs.Plan.{limit}
use Rattle.rtl_layout.specs.Seen.{seen}
use Rattle.rtl_layout.proofs.Built.{told, chosen, first_of}
use Rattle.rtl_layout.proofs.digits.last_visit_next.Goals as goal

pub bounds-deref-0 : goal.bounds-deref-0
bounds-deref-0 c = subst (λ l. 0 < length l) (sym c.deref.ensures.0) c.args.plan.now.is_plan.ready.has_element

pub returns : goal.returns
returns c =
    let p = seen c.args.plan.now in
    let element = first_of _ _ _ nothing c.deref.ensures.0 c.args.plan.now.is_plan.ready.has_element c.index-deref-0.is in
    let first = c.flag-3.ensures ∙ ap (λ k. lit 1 (bit (nat_eq k 1))) (c.limit-first.ensures ∙ ap (limit p) element) in
    let next = c.in_ok-next.ensures ∙ chosen _ _ _ _ _ _ (c.net.ensures ∙ ap Net c.name.ensures) c.flag.ensures c.flag-2.ensures in
    let ends = c.in_ok-ends.ensures ∙ chosen _ _ _ _ _ _ (c.net-2.ensures ∙ ap Net c.name-2.ensures) next c.in_ok-more.ensures in
    let kept = ap Net c.name-5.ensures in
    let stepped = c.in_ok-stepped.ensures ∙ chosen _ _ _ _ _ _ (ap Net c.name-3.ensures) (chosen _ _ _ _ _ _ (ap Net c.name-4.ensures) ends kept) kept in
    told c.after_reset.result _ _ (chosen _ _ _ _ _ _ refl first stepped) c.after_reset.ensures
