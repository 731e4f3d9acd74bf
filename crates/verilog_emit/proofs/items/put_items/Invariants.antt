use Rattle.std.proofs.Common.{◌≡◌, ◌++◌, true, drop, map}
use Rattle.verilog_tree.specs.Fits.{items_fit}
use Rattle.verilog_tree.specs.Plain.{plain_item}
use Rattle.verilog_emit.specs.Printed.{items_text}
use Rattle.verilog_emit.proofs.items.put_items.Given as goal

abbrev pub invariant-loop-item : goal.invariant-loop-item
invariant-loop-item l = record {
  text : l.out.items ++ items_text (map plain_item (drop l.item-index l.items)) ≡ l.initial.out.items ++ items_text (map plain_item l.items);
  fits : items_fit 64 (map plain_item (drop l.item-index l.items)) ≡ true;
}
