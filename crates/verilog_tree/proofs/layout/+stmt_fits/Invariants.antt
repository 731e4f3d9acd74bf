use Rattle.std.proofs.Common.{◌≡◌, map, drop}
use Rattle.verilog_tree.specs.Plain.{plain_stmts, arms}
use Rattle.verilog_tree.specs.inner.Plain.{plain_arm}
use Rattle.verilog_tree.specs.Fits.{statements_fit, arms_fit}
use Rattle.verilog_tree.proofs.layout.+stmt_fits.Given as goal

abbrev pub invariant-stmts_fit-loop-s : goal.invariant-stmts_fit-loop-s
invariant-stmts_fit-loop-s l = statements_fit l.room (plain_stmts (drop l.s-index l.body)) ≡ statements_fit l.room (plain_stmts l.body)

abbrev pub invariant-arms_fit-loop-arm : goal.invariant-arms_fit-loop-arm
invariant-arms_fit-loop-arm l = arms_fit l.room (arms (map plain_arm (drop l.arm-index l.choices))) ≡ arms_fit l.room (arms (map plain_arm l.choices))
