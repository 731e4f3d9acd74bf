use Rattle.std.proofs.Common.{◌≡◌, ◌++◌}
use Rattle.march_syntax.specs.Printed.{ops_text}
use Rattle.march_syntax.proofs.PrintLaws.{ops_from}
use Rattle.march_syntax.proofs.print.write_ops.Given as goal

abbrev pub invariant-loop-i : goal.invariant-loop-i
invariant-loop-i l = l.out.items ++ ops_from l.i l.ops ≡ l.initial.out.items ++ ops_text l.ops
