use Rattle.std.proofs.Common.{ap, ◌∙◌}
use Rattle.verilog_tree.specs.Plain.{Net}
use Rattle.rtl_layout.specs.Build.{lit}
use Rattle.rtl_layout.proofs.Built.{told, chosen, joined}
use Rattle.rtl_layout.proofs.assigns.index.Goals as goal

pub returns : goal.returns
returns c =
    told c.choose.result _ _
    (chosen _ _ _ _ _ _ (c.net.ensures ∙ ap Net c.name.ensures)
    (c.in_ok-downward.ensures ∙ joined _ _ _ _ _ (c.literal-top.ensures ∙ ap (lit c.args.plan.now.addr_width) c.from.ensures) c.visited.ensures)
    c.visited-2.ensures)
    c.choose.ensures
