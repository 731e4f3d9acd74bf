use Rattle.std.proofs.Common.{◌≡◌, map, drop}
use Rattle.verilog_tree.specs.Plain.{plain_item}
use Rattle.verilog_tree.specs.Formed.{items_formed}
use Rattle.verilog_tree.proofs.sizes.items_formed.Given as goal

abbrev pub invariant-loop-item : goal.invariant-loop-item
invariant-loop-item l = items_formed (map plain_item l.items) ≡ items_formed (map plain_item (drop l.item-index l.items))
