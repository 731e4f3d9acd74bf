use Rattle.verilog_text.proofs.Sizes.{spelled_formed}
use Rattle.verilog_text.proofs.laws.sized.Goals as goal

pub returns : goal.returns
returns c = spelled_formed
