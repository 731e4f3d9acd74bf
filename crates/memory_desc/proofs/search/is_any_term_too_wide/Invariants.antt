use Rattle.memory_desc.proofs.Common.{is_term_too_wide, list_any, ◌≡◌}
use Rattle.memory_desc.proofs.search.is_any_term_too_wide.Given as goal

abbrev pub invariant-loop-term : goal.invariant-loop-term
invariant-loop-term l = record {
  can_next : (goal.iterator-loop-term).can_next l.term-iterator;
  is_finite : (goal.iterator-loop-term).is_finite l.term-iterator;
  left : list_any (is_term_too_wide l.width) l.fn.terms ≡ list_any (is_term_too_wide l.width) l.term-iterator;
}
