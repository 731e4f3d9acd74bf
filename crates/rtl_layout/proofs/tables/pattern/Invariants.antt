use Rattle.std.proofs.Common.{◌≡◌, map, take, false}
use Rattle.verilog_tree.specs.Plain.{plain}
use Rattle.rtl_layout.specs.Build.{lit}
use Rattle.rtl_layout.specs.Plan.{port_word}
use Rattle.rtl_layout.specs.Seen.{seen}
use Rattle.rtl_layout.proofs.tables.pattern.Given as goal

abbrev pub invariant-loop-background : goal.invariant-loop-background
invariant-loop-background l = map plain l.leaves.items ≡ map (λ b. lit l.plan.bits (port_word (seen l.plan) false b)) (take l.background-index l.background-items)
