use Rattle.verilog_text.specs.Answering.{Finished, Faulty}
use Rattle.verilog_text.proofs.Firsts.{first}
use Rattle.verilog_text.proofs.laws.first.Goals as goal

pub returns-clause-of_refused : goal.returns-clause-of_refused
returns-clause-of_refused c = λ y b f g e s. first y b (Faulty f) g e s

pub returns-clause-of_read : goal.returns-clause-of_read
returns-clause-of_read c = λ y b v g e s. first y b (Finished v) g e s
