use Rattle.std.proofs.Common.{◌≡◌, OnOk, ◌++◌, map, subst}
use Rattle.verilog_tree.specs.Plain.{plain_item}
use Rattle.rtl_layout.specs.Layout as L
use Rattle.rtl_layout.specs.Seen.{seen}
use Rattle.rtl_layout.proofs.build.declare_wires.Goals as goal

pub returns : goal.returns
returns c =
    let p = seen c.args.plan.now in
    subst (λ w. OnOk c.wires.result (map plain_item c.wires.new.items.items ≡ map plain_item c.args.items.now.items ++ (L.flag_wires w ++ (L.next_wires ++ (L.last_wires ++ L.command_wires p)))))
    c.row_width-row.ensures c.wires.ensures
