use Rattle.chip_desc.proofs.Common.{first_of, lines_left, statements, text_lines, ◌≡◌}
use Rattle.chip_desc.proofs.search.first_of.Given as goal

abbrev pub invariant-loop-line : goal.invariant-loop-line
invariant-loop-line l = record {
  can_next : (goal.iterator-loop-line).can_next l.line-iterator;
  is_finite : (goal.iterator-loop-line).is_finite l.line-iterator;
  found : first_of l.wanted (statements (text_lines l.bytes)) ≡ first_of l.wanted (statements (lines_left l.line-iterator));
}
