use Rattle.std.proofs.Common.{◌≡◌, ◌++◌}
use Rattle.bist_endings.specs.Ending.{rows_text}
use Rattle.bist_endings.proofs.memory_lines.put_singular.Given as goal

abbrev pub invariant-loop-row : goal.invariant-loop-row
invariant-loop-row l = l.line.items ≡ l.initial.line.items ++ rows_text l.rows l.row
