use Rattle.std.proofs.Common.{Ok, codes, ap, ◌∙◌}
use Rattle.std.specs.declared.alloc.AllocError.{AllocError}
use Rattle.verilog_tree.specs.Plain.{Net, AssignItem}
use Rattle.rtl_layout.specs.Layout as L
use Rattle.rtl_layout.specs.Seen.{seen}
use Rattle.rtl_layout.proofs.Built.{told}
use Rattle.rtl_layout.proofs.Joined.{aged_next}
use Rattle.rtl_layout.proofs.Rowed.{row_is}
use Rattle.rtl_layout.proofs.ports.assign_ports.Goals as goal

pub returns : goal.returns
returns c =
    c.assign_all.ensures (L.port_assigns (seen c.args.plan.now)) (
      row_is AssignItem _ _ c.gate.result _ c.name.ensures (told c.gate.result _ _ (ap L.gated (c.net.ensures ∙ ap Net c.name-2.ensures)) c.gate.ensures),
      (
        row_is {E = AllocError} AssignItem _ _ (Ok c.net-2.result) _ c.name-3.ensures (c.net-2.ensures ∙ ap Net c.name-4.ensures),
        (
          row_is AssignItem _ _ c.address.result _ c.name-5.ensures c.address.ensures,
          (
            row_is {E = AllocError} AssignItem _ _ (Ok c.net-3.result) _ c.name-6.ensures (c.net-3.ensures ∙ ap Net c.name-7.ensures),
            (
              row_is AssignItem _ _ c.gate-2.result _ c.name-8.ensures (told c.gate-2.result _ _ (ap L.gated (c.net-4.ensures ∙ ap Net (aged_next (codes "over") _ c.args.plan.now.delay c.aged.ensures))) c.gate-2.ensures),
              (row_is AssignItem _ _ c.gate-3.result _ c.name-9.ensures (told c.gate-3.result _ _ (ap L.gated (c.net-5.ensures ∙ ap Net c.name-10.ensures)) c.gate-3.ensures), tt),
            ),
          ),
        ),
      ),
    )
