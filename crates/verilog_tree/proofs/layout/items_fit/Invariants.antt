use Rattle.std.proofs.Common.{◌≡◌, map, drop}
use Rattle.verilog_tree.specs.Plain.{plain_item}
use Rattle.verilog_tree.specs.Fits.{items_fit}
use Rattle.verilog_tree.proofs.layout.items_fit.Given as goal

abbrev pub invariant-loop-item : goal.invariant-loop-item
invariant-loop-item l = items_fit 64 (map plain_item (drop l.item-index l.items)) ≡ items_fit 64 (map plain_item l.items)
