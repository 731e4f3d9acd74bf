use Rattle.std.proofs.Common.{◌≡◌, ◌-◌, ◌++◌, map}
use Rattle.verilog_tree.specs.Plain.{plain_item}
use Rattle.rtl_layout.specs.Layout.{stage_regs}
use Rattle.rtl_layout.proofs.ages.declare_ages.Given as goal

abbrev pub invariant-loop-i : goal.invariant-loop-i
invariant-loop-i l = map plain_item l.items.items ++ stage_regs l.many l.width l.i (l.delay - l.i) ≡ map plain_item l.initial.items.items ++ stage_regs l.many l.width 0 l.delay
