use Rattle.std.proofs.Common.{◌≡◌, map, drop}
use Rattle.verilog_tree.specs.Plain.{plain_stmts, arms}
use Rattle.verilog_tree.specs.inner.Plain.{plain_arm}
use Rattle.verilog_tree.specs.Formed.{statements_formed, arms_formed}
use Rattle.verilog_tree.proofs.sizes.+stmt_formed.Given as goal

abbrev pub invariant-stmts_formed-loop-s : goal.invariant-stmts_formed-loop-s
invariant-stmts_formed-loop-s l = statements_formed (plain_stmts l.body) ≡ statements_formed (plain_stmts (drop l.s-index l.body))

abbrev pub invariant-arms_formed-loop-arm : goal.invariant-arms_formed-loop-arm
invariant-arms_formed-loop-arm l = arms_formed (arms (map plain_arm l.choices)) ≡ arms_formed (arms (map plain_arm (drop l.arm-index l.choices)))
