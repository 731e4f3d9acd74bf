use Rattle.verilog_text.proofs.Finishing.{finishes}
use Rattle.verilog_text.proofs.laws.finished.Goals as goal

pub returns : goal.returns
returns c = finishes
