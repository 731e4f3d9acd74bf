use Rattle.std.proofs.Common.{◌≡◌, map, drop}
use Rattle.verilog_tree.specs.Plain.{plain_item}
use Rattle.verilog_tree.specs.Names.{width_of}
use Rattle.verilog_tree.specs.inner.Tables.{breaks_behind, all_assigned}
use Rattle.verilog_tree.proofs.rules.check_items.Given as goal

abbrev pub invariant-loop-item : goal.invariant-loop-item
invariant-loop-item l =
    let rest = map plain_item (drop l.item-index l.items) in
    (breaks_behind (width_of l.widths) l.before.declared l.before.assigned l.before.set rest ≡ breaks_behind (width_of l.widths) l.initial.before.declared l.initial.before.assigned l.initial.before.set (map plain_item l.items))
    × (all_assigned l.before.assigned rest ≡ all_assigned l.initial.before.assigned (map plain_item l.items))
