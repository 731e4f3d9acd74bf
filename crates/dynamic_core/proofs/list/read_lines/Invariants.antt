use Rattle.bist_text.specs.Lines.{lines_left, text_lines}
use Rattle.fault_syntax.proofs.LineByLine.{Reading}
use Rattle.fault_syntax.specs.ListText.{LineOf}
use Rattle.dynamic_core.specs.ItemParts.{BringsIn}
use Rattle.dynamic_core.proofs.list.read_lines.Given as goal

-- the lines so far are read
abbrev pub invariant-loop-line : goal.invariant-loop-line
invariant-loop-line l = record {
  can_next : (goal.iterator-loop-line).can_next l.line-iterator;
  is_finite : (goal.iterator-loop-line).is_finite l.line-iterator;
  reading : Reading (LineOf l.set) (BringsIn l.set) (text_lines l.bytes) (lines_left l.line-iterator) l.items.items;
}
