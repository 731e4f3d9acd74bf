use Rattle.std.proofs.Common.{◌≡◌, ◌-◌, ◌++◌, map}
use Rattle.verilog_tree.specs.Plain.{plain_stmt}
use Rattle.rtl_layout.specs.Layout.{stage_sets}
use Rattle.rtl_layout.proofs.ages.set_ages.Given as goal

abbrev pub invariant-loop-i : goal.invariant-loop-i
invariant-loop-i l = map plain_stmt l.block.items ++ stage_sets l.many l.width l.i (l.delay - l.i) ≡ map plain_stmt l.initial.block.items ++ stage_sets l.many l.width 0 l.delay
