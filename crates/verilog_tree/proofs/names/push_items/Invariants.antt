use Rattle.std.proofs.Common.{◌≡◌, ◌++◌, map, drop}
use Rattle.verilog_tree.specs.Plain.{plain_item}
use Rattle.verilog_tree.specs.Names.{item_declarations}
use Rattle.verilog_tree.specs.Seen.{declaration}
use Rattle.verilog_tree.proofs.names.push_items.Given as goal

abbrev pub invariant-loop-item : goal.invariant-loop-item
invariant-loop-item l = map declaration l.all.items ++ item_declarations (map plain_item (drop l.item-index l.items)) ≡ map declaration l.initial.all.items ++ item_declarations (map plain_item l.items)
