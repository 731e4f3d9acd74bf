use Rattle.memory_desc.proofs.Common.{arith}
use Rattle.memory_desc.proofs.Passed.{refused}
use Rattle.memory_desc.proofs.TermReads.{index_stuck, index_took, one_took, zero_took}
use Rattle.memory_desc.proofs.row_reader.term.Goals as goal

pub returns-in_err-bit-in-112 : goal.returns-in_err-bit-in-112
returns-in_err-bit-in-112 c =
    refused _ _ c.from_residual.result c.in_err-bit-in-112.field-0.0 c.from_residual.ensures (index_stuck c.args.text.now _ c.in-112.len_at_least (omega arith) c.in_err-bit-in-112.ensures)

pub returns-in_ok-bit-in-112 : goal.returns-in_ok-bit-in-112
returns-in_ok-bit-in-112 c = index_took c.args.text.now c.in_ok-bit-in-112.rest.now c.in_ok-bit-in-112.bit c.in-112.len_at_least (omega arith) c.in_ok-bit-in-112.ensures

pub returns-in-48 : goal.returns-in-48
returns-in-48 c = zero_took c.args.text.now c.in-48.len_at_least (omega arith)

pub returns-in-49 : goal.returns-in-49
returns-in-49 c = one_took c.args.text.now c.in-49.len_at_least (omega arith)
