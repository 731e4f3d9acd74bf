use Rattle.std.proofs.Common.{◌<◌, length, sym, ap, ◌∙◌, subst}
use Rattle.verilog_tree.specs.Plain.{Net}
use Rattle.rtl_layout.specs.Control.{nothing}
use Rattle.rtl_layout.specs.Plan.{is_single}
use Rattle.rtl_layout.proofs.Built.{told, turned, first_of, first_has}
use Rattle.rtl_layout.proofs.digits.last_oper_next.Goals as goal

pub returns : goal.returns
returns c =
    told c.turning.result _ _
    (turned _ _ _ _ _ _ _ _ _ _ c.name.ensures
    (c.at_number.ensures ∙ ap is_single (first_of _ _ _ nothing c.deref.ensures.0 c.args.plan.now.is_plan.ready.has_element c.index-deref-0.is))
    (c.net.ensures ∙ ap Net c.name-2.ensures) (c.net-2.ensures ∙ ap Net c.name-3.ensures) (c.net-3.ensures ∙ ap Net c.name-4.ensures))
    c.turning.ensures

pub bounds-deref-0 : goal.bounds-deref-0
bounds-deref-0 c = subst (λ l. 0 < length l) (sym c.deref.ensures.0) c.args.plan.now.is_plan.ready.has_element

pub at_number-requires-clause-some : goal.at_number-requires-clause-some
at_number-requires-clause-some c = first_has _ _ _ c.args.plan.now.is_plan.ready c.deref.ensures.0 c.index-deref-0.is
