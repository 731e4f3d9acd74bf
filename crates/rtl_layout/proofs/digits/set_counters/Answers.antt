use Rattle.std.proofs.Common.{le_trans, lit≤, lit<, [], refl}
use Rattle.verilog_tree.specs.Plain.{SetTo}
use Rattle.rtl_layout.specs.Layout as L
use Rattle.rtl_layout.specs.Seen.{seen}
use Rattle.rtl_layout.proofs.Built.{told}
use Rattle.rtl_layout.proofs.Joined.{counter_told, nets}
use Rattle.rtl_layout.proofs.Rowed.{row_is}
use Rattle.rtl_layout.proofs.digits.set_counters.Goals as goal

pub returns : goal.returns
returns c =
    let element = nets _ _ [] [] c.name-last_element.ensures refl in
    let visit = nets _ _ [] [] c.name-last_visit.ensures refl in
    let visit_more = nets _ _ _ _ c.name-last_visit.ensures element in
    let oper = nets _ _ [] [] c.name-last_oper.ensures refl in
    c.set_all.ensures (L.digit_sets (seen c.args.plan.now)) (
      row_is SetTo _ _ c.counting-opers.result _ c.name-oper.ensures (told c.counting-opers.result _ _ (counter_told _ _ _ _ _ _ _ c.name-oper.ensures (nets _ _ [] [] c.name-run.ensures refl) c.name-last_oper.ensures) c.counting-opers.ensures),
      (
        row_is SetTo _ _ c.counting-visits.result _ c.name-visit.ensures (told c.counting-visits.result _ _ (counter_told _ _ _ _ _ _ _ c.name-visit.ensures (nets _ _ _ _ c.name-run.ensures oper) c.name-last_visit.ensures) c.counting-visits.ensures),
        (
          row_is SetTo _ _ c.counting-elements.result _ c.name-element.ensures (told c.counting-elements.result _ _ (counter_told _ _ _ _ _ _ _ c.name-element.ensures (nets _ _ _ _ c.name-run.ensures (nets _ _ _ _ c.name-last_oper.ensures visit)) c.name-last_element.ensures) c.counting-elements.ensures),
          (
            row_is SetTo _ _ c.counting-backs.result _ c.name-back.ensures (told c.counting-backs.result _ _ (counter_told _ _ _ _ _ _ _ c.name-back.ensures (nets _ _ _ _ c.name-run.ensures (nets _ _ _ _ c.name-last_oper.ensures visit_more)) c.name-last_back.ensures) c.counting-backs.ensures),
            (
              row_is SetTo _ _ c.run_next.result _ c.name-run.ensures c.run_next.ensures,
              (
                row_is SetTo _ _ c.last_oper_next.result _ c.name-last_oper.ensures c.last_oper_next.ensures,
                (row_is SetTo _ _ c.last_visit_next.result _ c.name-last_visit.ensures c.last_visit_next.ensures, tt),
              ),
            ),
          ),
        ),
      ),
    )

pub name-run-requires : goal.name-run-requires
name-run-requires c = lit≤ tt

pub name-oper-requires : goal.name-oper-requires
name-oper-requires c = lit≤ tt

pub name-visit-requires : goal.name-visit-requires
name-visit-requires c = lit≤ tt

pub name-element-requires : goal.name-element-requires
name-element-requires c = lit≤ tt

pub name-back-requires : goal.name-back-requires
name-back-requires c = lit≤ tt

pub name-last_oper-requires : goal.name-last_oper-requires
name-last_oper-requires c = lit≤ tt

pub name-last_visit-requires : goal.name-last_visit-requires
name-last_visit-requires c = lit≤ tt

pub name-last_element-requires : goal.name-last_element-requires
name-last_element-requires c = lit≤ tt

pub name-last_back-requires : goal.name-last_back-requires
name-last_back-requires c = lit≤ tt

pub counting-opers-requires-clause-positive : goal.counting-opers-requires-clause-positive
counting-opers-requires-clause-positive c = c.args.plan.now.is_plan.ready.sized.oper_some

pub counting-opers-requires-clause-narrow : goal.counting-opers-requires-clause-narrow
counting-opers-requires-clause-narrow c = c.args.plan.now.is_plan.ready.sized.oper_narrow

pub counting-visits-requires-clause-narrow : goal.counting-visits-requires-clause-narrow
counting-visits-requires-clause-narrow c = c.args.plan.now.is_plan.ready.sized.visit_narrow

pub counting-elements-requires-clause-positive : goal.counting-elements-requires-clause-positive
counting-elements-requires-clause-positive c = c.args.plan.now.is_plan.ready.sized.element_some

pub counting-elements-requires-clause-narrow : goal.counting-elements-requires-clause-narrow
counting-elements-requires-clause-narrow c = c.args.plan.now.is_plan.ready.sized.element_narrow

pub counting-backs-requires-clause-positive : goal.counting-backs-requires-clause-positive
counting-backs-requires-clause-positive c = c.args.plan.now.is_plan.ready.sized.back_some

pub counting-backs-requires-clause-narrow : goal.counting-backs-requires-clause-narrow
counting-backs-requires-clause-narrow c = c.args.plan.now.is_plan.ready.sized.back_narrow

pub set_all-requires : goal.set_all-requires
set_all-requires c = lit< tt

pub counting-visits-requires-clause-positive : goal.counting-visits-requires-clause-positive
counting-visits-requires-clause-positive c = le_trans c.args.plan.now.is_plan.ready.sized.addr_some c.args.plan.now.is_plan.ready.sized.visit_holds
