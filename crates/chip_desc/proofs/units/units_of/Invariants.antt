use Rattle.chip_desc.proofs.Common.{None, length, lines_left, map, out_of_range, statements, text_lines, unit_of, units_said, ◌++◌, ◌≡◌, ◌≤◌}
use Rattle.chip_desc.proofs.units.units_of.Given as goal

abbrev pub invariant-loop-line : goal.invariant-loop-line
invariant-loop-line l = record {
  can_next : (goal.iterator-loop-line).can_next l.line-iterator;
  is_finite : (goal.iterator-loop-line).is_finite l.line-iterator;
  few : length l.units.items ≤ 16;
  taken : map unit_of l.units.items ++ units_said (statements (lines_left l.line-iterator)) ≡ units_said (statements (text_lines l.bytes));
  ranged : out_of_range (statements (lines_left l.line-iterator)) ≡ None;
}
