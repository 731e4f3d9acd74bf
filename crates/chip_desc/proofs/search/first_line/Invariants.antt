use Rattle.chip_desc.proofs.Common.{find, is_sought, lines_left, statements, text_lines, ◌≡◌}
use Rattle.chip_desc.proofs.search.first_line.Given as goal

abbrev pub invariant-loop-line : goal.invariant-loop-line
invariant-loop-line l = record {
  can_next : (goal.iterator-loop-line).can_next l.line-iterator;
  is_finite : (goal.iterator-loop-line).is_finite l.line-iterator;
  found :
      find (is_sought l.sought (statements (text_lines l.bytes))) (statements (text_lines l.bytes))
      ≡ find (is_sought l.sought (statements (text_lines l.bytes))) (statements (lines_left l.line-iterator));
}
