use Rattle.memory_desc.proofs.Common.{text_lines}
use Rattle.memory_desc.specs.inner.Heard.{statements}
use Rattle.memory_desc.proofs.Rows.{RowsAre}
use Rattle.memory_desc.proofs.building.scramble_from.Given as goal

abbrev pub invariant-loop-bit : goal.invariant-loop-bit
invariant-loop-bit l = RowsAre (statements (text_lines l.bytes)) l.bit l.rows l.constant
