use Rattle.std.proofs.Common.{◌≡◌, ◌++◌, true, drop, map}
use Rattle.verilog_tree.specs.Plain.{plain_stmts, arms}
use Rattle.verilog_tree.specs.inner.Plain.{plain_arm}
use Rattle.verilog_emit.specs.Printed.{statements_text, arms_text}
use Rattle.verilog_emit.specs.inner.Shallow.{statements_shallow, arms_shallow}
use Rattle.verilog_emit.proofs.statements.+put_stmt.Given as goal

abbrev pub invariant-put_stmts-loop-s : goal.invariant-put_stmts-loop-s
invariant-put_stmts-loop-s l = record {
  text : l.out.items ++ statements_text l.depth (plain_stmts (drop l.s-index l.body)) ≡ l.initial.out.items ++ statements_text l.depth (plain_stmts l.body);
  shallow : statements_shallow l.depth (plain_stmts (drop l.s-index l.body)) ≡ true;
}

abbrev pub invariant-put_arms-loop-arm : goal.invariant-put_arms-loop-arm
invariant-put_arms-loop-arm l = record {
  text : l.out.items ++ arms_text l.depth (arms (map plain_arm (drop l.arm-index l.choices))) ≡ l.initial.out.items ++ arms_text l.depth (arms (map plain_arm l.choices));
  shallow : arms_shallow l.depth (arms (map plain_arm (drop l.arm-index l.choices))) ≡ true;
}
