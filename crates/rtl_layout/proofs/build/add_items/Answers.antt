use Rattle.std.proofs.Common.{◌≡◌, OnOk, ◌++◌, [], ◌∷◌, map, subst}
use Rattle.verilog_tree.specs.Plain.{AlwaysItem, statements, plain_item}
use Rattle.rtl_layout.specs.Plan.{several, several_bits}
use Rattle.rtl_layout.specs.Layout as L
use Rattle.rtl_layout.specs.inner.Layout as LInner
use Rattle.rtl_layout.specs.Seen.{seen}
use Rattle.rtl_layout.proofs.Joined.{grown, regrouped}
use Rattle.rtl_layout.proofs.build.add_items.Goals as goal

pub returns : goal.returns
returns c =
    let p = seen c.args.plan.now in
    let behind = L.wires p ++ (L.wire_assigns p ++ (L.port_assigns p ++ AlwaysItem L.clk (statements (L.sets_all p)) ∷ [])) in
    subst (λ l. OnOk c.add_block.result (map plain_item c.add_block.new.items.items ≡ map plain_item c.args.items.now.items ++ l))
    (regrouped (L.digit_regs p) (L.one_reg (several_bits p)) (L.stage_regs (several p) p.back_width 0 p.delay) (L.end_regs p) behind)
    (grown c.add_block.result _ _ _ (LInner.registers p) _ c.in_ok-declare_registers.ensures
    (grown _ _ _ _ (L.wires p) _ c.in_ok-declare_wires.ensures
    (grown _ _ _ _ (L.wire_assigns p) _ c.in_ok-assign_wires.ensures
    (grown _ _ _ _ (L.port_assigns p) _ c.in_ok-assign_ports.ensures c.add_block.ensures))))
