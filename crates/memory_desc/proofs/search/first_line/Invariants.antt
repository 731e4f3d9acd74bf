use Rattle.memory_desc.proofs.Common.{find, is_sought, lines_left, text_lines, ◌≡◌}
use Rattle.memory_desc.specs.inner.Heard.{statements}
use Rattle.memory_desc.proofs.search.first_line.Given as goal

abbrev pub invariant-loop-line : goal.invariant-loop-line
invariant-loop-line l = record {
  can_next : (goal.iterator-loop-line).can_next l.line-iterator;
  is_finite : (goal.iterator-loop-line).is_finite l.line-iterator;
  found : find (λ s. is_sought l.sought s.content) (statements (text_lines l.bytes)) ≡ find (λ s. is_sought l.sought s.content) (statements (lines_left l.line-iterator));
}
