use Rattle.verilog_tree.proofs.Loops.{no_loop}
use Rattle.verilog_tree.proofs.laws.no_loop_where_a_rank_falls.Goals as goal

pub returns : goal.returns
returns c = no_loop
