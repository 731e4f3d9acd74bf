use Rattle.verilog_cycle.proofs.Reading.{reads_nothing}
use Rattle.verilog_cycle.proofs.program.step_of.Goals as goal

pub returns-then-reads-eq0-clause-reads : goal.returns-then-reads-eq0-clause-reads
returns-then-reads-eq0-clause-reads c = reads_nothing c.args.compiled.reads 18446744073709551615 c.args.compiled.code.value c.if-reads-eq0.true
