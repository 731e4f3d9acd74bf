use Rattle.std.proofs.Common.{◌≡◌, map, drop}
use Rattle.verilog_tree.specs.Plain.{plain_stmts, arms}
use Rattle.verilog_tree.specs.inner.Plain.{plain_arm}
use Rattle.verilog_tree.specs.Rules.{statements_widths, arms_widths}
use Rattle.verilog_tree.specs.Names.{width_of}
use Rattle.verilog_tree.proofs.widths.+stmt_widths.Given as goal

abbrev pub invariant-stmts_widths-loop-s : goal.invariant-stmts_widths-loop-s
invariant-stmts_widths-loop-s l = statements_widths (width_of l.names) (plain_stmts (drop l.s-index l.body)) ≡ statements_widths (width_of l.names) (plain_stmts l.body)

abbrev pub invariant-stmt_widths-loop-arm : goal.invariant-stmt_widths-loop-arm
invariant-stmt_widths-loop-arm l = arms_widths (width_of l.names) l.subject (arms (map plain_arm (drop l.arm-index l.arm-items))) ≡ arms_widths (width_of l.names) l.subject (arms (map plain_arm l.arm-items))
