use Rattle.std.proofs.Common.{◌≡◌, ◌-◌, map, drop, reverse, length}
use Rattle.verilog_tree.specs.Plain.{plain}
use Rattle.rtl_layout.specs.Layout.{row_bit}
use Rattle.rtl_layout.proofs.ports.address.Given as goal

abbrev pub invariant-loop-i : goal.invariant-loop-i
invariant-loop-i l = map plain l.bits.items ≡ reverse (map (row_bit l.plan.addr_width) (drop (length l.rows - l.i) l.rows))
