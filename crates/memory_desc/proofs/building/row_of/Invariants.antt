use Rattle.memory_desc.proofs.Common.{bit_xor, constant_of, false, if◌then◌else◌, index_bits, is_term_too_wide, list_any, not, ℕ, ◌≡◌, ◌≤◌}
use Rattle.memory_desc.proofs.building.row_of.Given as goal

abbrev pub invariant-loop-term : goal.invariant-loop-term
invariant-loop-term l = record {
  can_next : (goal.iterator-loop-term).can_next l.term-iterator;
  is_finite : (goal.iterator-loop-term).is_finite l.term-iterator;
  fit : (width : ℕ) × (width ≤ 16) × (list_any (is_term_too_wide width) l.term-iterator ≡ false);
  names : bit_xor l.row.names (index_bits l.term-iterator) ≡ index_bits l.fn.terms;
  constant : (if l.row.constant then not (constant_of l.term-iterator) else constant_of l.term-iterator) ≡ constant_of l.fn.terms;
}
