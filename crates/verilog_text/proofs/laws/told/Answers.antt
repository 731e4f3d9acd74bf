use Rattle.verilog_text.proofs.Faults.{says}
use Rattle.verilog_text.proofs.laws.told.Goals as goal

pub returns : goal.returns
returns c = says
