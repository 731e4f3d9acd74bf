use Rattle.memory_desc.proofs.Common.{list_any, nat_lt, ◌≡◌}
use Rattle.memory_desc.proofs.search.is_any_past.Given as goal

abbrev pub invariant-loop-word : goal.invariant-loop-word
invariant-loop-word l = record {
  can_next : (goal.iterator-loop-word).can_next l.word-iterator;
  is_finite : (goal.iterator-loop-word).is_finite l.word-iterator;
  left : list_any (nat_lt l.greatest) l.fn.words ≡ list_any (nat_lt l.greatest) l.word-iterator;
}
