use Rattle.std.proofs.Common.{◌≡◌, ◌++◌}
use Rattle.report_lines.specs.Lines.{directions_text}
use Rattle.report_lines.proofs.passing.write_directions.Given as goal

abbrev pub invariant-loop-element : goal.invariant-loop-element
invariant-loop-element l = l.out.items ≡ l.initial.out.items ++ directions_text l.directions l.element
