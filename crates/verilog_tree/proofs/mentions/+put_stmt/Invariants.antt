use Rattle.std.proofs.Common.{◌≡◌, ◌++◌, map, drop}
use Rattle.verilog_tree.specs.Plain.{plain_stmts, arms}
use Rattle.verilog_tree.specs.inner.Plain.{plain_arm}
use Rattle.verilog_tree.specs.Rules.{statements_mentions, arms_mentions}
use Rattle.verilog_tree.specs.inner.Seen.{mention}
use Rattle.verilog_tree.proofs.mentions.+put_stmt.Given as goal

abbrev pub invariant-put_stmts-loop-s : goal.invariant-put_stmts-loop-s
invariant-put_stmts-loop-s l = map mention l.out.items ++ statements_mentions (plain_stmts (drop l.s-index l.body)) ≡ map mention l.initial.out.items ++ statements_mentions (plain_stmts l.body)

abbrev pub invariant-put_stmt-loop-arm : goal.invariant-put_stmt-loop-arm
invariant-put_stmt-loop-arm l = map mention l.out.items ++ arms_mentions (arms (map plain_arm (drop l.arm-index l.arm-items))) ≡ map mention l.initial.out.items ++ arms_mentions (arms (map plain_arm l.arm-items))
