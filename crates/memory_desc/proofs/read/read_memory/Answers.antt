use Rattle.memory_desc.proofs.Common.{Err, None, ap, inl, inr, passed, stopped, text_lines, version_at, walk}
use Rattle.memory_desc.proofs.OneOutcome.{Hears, reading}
use Rattle.memory_desc.proofs.read.read_memory.Goals.{After-described, After-of_lines}
use Rattle.memory_desc.proofs.read.read_memory.Goals as goal

described : (c : After-described) → Hears c.args.bytes.now c.described.result
described c = inr (passed (walk version_at (text_lines c.args.bytes.now) None) c.in-Ok.ensures, c.described.ensures)

pub returns-in-Ok-clause-ok : goal.returns-in-Ok-clause-ok
returns-in-Ok-clause-ok c = λ d. reading c.args.bytes.now c.described.result (described c) _

pub returns-in-Ok-clause-refused : goal.returns-in-Ok-clause-refused
returns-in-Ok-clause-refused c = λ f. reading c.args.bytes.now c.described.result (described c) _

refused : (c : After-of_lines) → Hears c.args.bytes.now (Err c.of_lines.result)
refused c = inl (c.in-Err.fault, stopped (walk version_at (text_lines c.args.bytes.now) None) c.in-Err.fault c.in-Err.ensures, ap Err c.of_lines.ensures)

pub returns-in-Err-clause-ok : goal.returns-in-Err-clause-ok
returns-in-Err-clause-ok c = λ d. reading c.args.bytes.now (Err c.of_lines.result) (refused c) _

pub returns-in-Err-clause-refused : goal.returns-in-Err-clause-refused
returns-in-Err-clause-refused c = λ f. reading c.args.bytes.now (Err c.of_lines.result) (refused c) _
