use Rattle.verilog_text.proofs.ReadingLaws.{reads_text, one_text}
use Rattle.verilog_text.proofs.laws.reads_texts.Goals as goal

pub returns-clause-exactly : goal.returns-clause-exactly
returns-clause-exactly c = reads_text

pub returns-clause-one_module : goal.returns-clause-one_module
returns-clause-one_module c = one_text
