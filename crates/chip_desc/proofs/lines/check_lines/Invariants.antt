use Rattle.chip_desc.proofs.Common.{None, lines_left, text_lines, version_at, walk, ◌≡◌}
use Rattle.chip_desc.proofs.lines.check_lines.Given as goal

abbrev pub invariant-loop-line : goal.invariant-loop-line
invariant-loop-line l = record {
  can_next : (goal.iterator-loop-line).can_next l.line-iterator;
  is_finite : (goal.iterator-loop-line).is_finite l.line-iterator;
  left : walk version_at (text_lines l.bytes) None ≡ walk version_at (lines_left l.line-iterator) l.version;
}
