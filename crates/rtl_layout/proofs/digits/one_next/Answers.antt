use Rattle.std.proofs.Common.{◌<◌, length, sym, ap, ◌∙◌, subst}
use Rattle.rtl_layout.specs.Control.{nothing}
use Rattle.rtl_layout.specs.Layout as L
use Rattle.rtl_layout.specs.Seen.{seen}
use Rattle.rtl_layout.proofs.Built.{told, turned, first_of, first_has}
use Rattle.rtl_layout.proofs.digits.one_next.Goals as goal

pub returns : goal.returns
returns c =
    let p = seen c.args.plan.now in
    told c.turning.result _ _
    (turned _ _ _ _ _ _ _ _ _ _ c.name-2.ensures
    (c.at_number-first.ensures ∙ ap L.begins_one (first_of _ _ _ nothing c.deref.ensures.0 c.args.plan.now.is_plan.ready.has_element c.index-deref-0.is))
    c.in_ok-next.ensures c.in_ok-again.ensures (c.in_ok-more.ensures ∙ ap (L.in_row p) c.name.ensures))
    c.turning.ensures

pub bounds-deref-0 : goal.bounds-deref-0
bounds-deref-0 c = subst (λ l. 0 < length l) (sym c.deref.ensures.0) c.args.plan.now.is_plan.ready.has_element

pub at_number-first-requires-clause-some : goal.at_number-first-requires-clause-some
at_number-first-requires-clause-some c = first_has _ _ _ c.args.plan.now.is_plan.ready c.deref.ensures.0 c.index-deref-0.is
