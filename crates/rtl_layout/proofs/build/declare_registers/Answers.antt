use Rattle.std.proofs.Common.{ap, ◌∙◌, map, ◌++◌}
use Rattle.verilog_tree.specs.Plain.{plain_item}
use Rattle.rtl_layout.specs.Plan.{several, several_bits}
use Rattle.rtl_layout.specs.Layout as L
use Rattle.rtl_layout.specs.Seen.{seen}
use Rattle.rtl_layout.proofs.Joined.{grown}
use Rattle.rtl_layout.proofs.build.declare_registers.Goals as goal

pub returns : goal.returns
returns c =
    let p = seen c.args.plan.now in
    grown c.registers-2.result _ _ _ (L.digit_regs p) _ c.in_ok-registers.ensures
    (grown _ _ _ _ (L.one_reg (several_bits p)) _ c.in_ok-declare_one.ensures
    (grown _ _ _ _ (L.stage_regs (several p) p.back_width 0 p.delay) _
    (c.in_ok-declare_ages.ensures ∙ ap (λ m. map plain_item c.declare_one.new.items.items ++ L.stage_regs m p.back_width 0 p.delay) c.is_several.ensures)
    c.registers-2.ensures))
