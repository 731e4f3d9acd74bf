use Rattle.std.proofs.Common.{◌≡◌, ◌++◌, true, drop, map, codes}
use Rattle.verilog_tree.specs.Plain.{plain, expressions}
use Rattle.verilog_emit.specs.Printed.{parts_text}
use Rattle.verilog_emit.proofs.expressions.+put_expr.Given as goal

abbrev pub invariant-put_parts-loop-part : goal.invariant-put_parts-loop-part
invariant-put_parts-loop-part l = l.out.items ++ parts_text l.first (expressions (map plain (drop l.part-index l.parts))) ≡ l.fn.out.items ++ codes "{" ++ parts_text true (expressions (map plain l.parts))
