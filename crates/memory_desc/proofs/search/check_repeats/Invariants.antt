use Rattle.memory_desc.proofs.Common.{lines_left, text_lines}
use Rattle.memory_desc.proofs.Repeats.{Passing}
use Rattle.memory_desc.proofs.search.check_repeats.Given as goal

abbrev pub invariant-loop-line : goal.invariant-loop-line
invariant-loop-line l = record {
  can_next : (goal.iterator-loop-line).can_next l.line-iterator;
  is_finite : (goal.iterator-loop-line).is_finite l.line-iterator;
  passing : Passing (text_lines l.bytes) (lines_left l.line-iterator) l.met.numbers.items;
}
