use Rattle.verilog_tree.proofs.Settling.{one_settles}
use Rattle.verilog_tree.proofs.laws.one_environment_settles.Goals as goal

pub returns : goal.returns
returns c = one_settles
