use Rattle.std.proofs.Common.{◌≡◌, ◌++◌}
use Rattle.march_syntax.specs.Printed.{elements_text}
use Rattle.march_syntax.proofs.PrintLaws.{elements_from}
use Rattle.march_syntax.proofs.print.write_elements.Given as goal

abbrev pub invariant-loop-i : goal.invariant-loop-i
invariant-loop-i l = l.out.items ++ elements_from l.i l.march ≡ l.initial.out.items ++ elements_text l.march
