use Rattle.std.proofs.Common.{◌≡◌, map}
use Rattle.verilog_tree.specs.Plain.{plain}
use Rattle.rtl_layout.specs.Build.{bit_of, counted}
use Rattle.rtl_layout.proofs.tables.in_row.Given as goal

abbrev pub invariant-loop-i : goal.invariant-loop-i
invariant-loop-i l = map plain l.leaves.items ≡ map (bit_of l.row.bytes l.width) (counted l.i)
