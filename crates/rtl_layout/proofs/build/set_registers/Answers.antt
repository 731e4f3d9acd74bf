use Rattle.std.proofs.Common.{◌++◌, ap, ◌∙◌, map}
use Rattle.verilog_tree.specs.Plain.{SetTo, plain_stmt}
use Rattle.rtl_layout.specs.Plan.{several, several_bits}
use Rattle.rtl_layout.specs.Layout as L
use Rattle.rtl_layout.specs.Seen.{seen}
use Rattle.rtl_layout.proofs.Joined.{grown}
use Rattle.rtl_layout.proofs.Rowed.{row_is}
use Rattle.rtl_layout.proofs.build.set_registers.Goals as goal

pub returns : goal.returns
returns c =
    let p = seen c.args.plan.now in
    grown c.set_all.result _ _ _ (L.digit_sets p ++ L.one_set p (several_bits p)) _ c.in_ok-set_digits.ensures
    (grown _ _ _ _ (L.stage_sets (several p) p.back_width 0 p.delay) _
    (c.in_ok-set_ages.ensures ∙ ap (λ m. map plain_stmt c.set_digits.new.block.items ++ L.stage_sets m p.back_width 0 p.delay) c.is_several-many.ensures)
    (c.set_all.ensures (L.end_sets p) (row_is SetTo _ _ c.want_next.result _ c.name.ensures c.want_next.ensures, (row_is SetTo _ _ c.bad_next.result _ c.name-2.ensures c.bad_next.ensures, tt))))
