use Rattle.verilog_tree.proofs.Reordering.{means_the_same}
use Rattle.verilog_tree.proofs.laws.order_does_not_matter.Goals as goal

pub returns : goal.returns
returns c = means_the_same
