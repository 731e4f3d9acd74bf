use Rattle.std.proofs.Common.{◌≡◌, map, take}
use Rattle.verilog_tree.specs.Plain.{plain}
use Rattle.rtl_layout.specs.inner.Flags.{row_leaf}
use Rattle.rtl_layout.proofs.tables.flags_ahead.Given as goal

abbrev pub invariant-loop-element : goal.invariant-loop-element
invariant-loop-element l = map plain l.leaves.items ≡ map (row_leaf l.width l.which) (take l.element-index l.element-items)
