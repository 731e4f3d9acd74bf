use Rattle.std.proofs.Common.{refl}
use Rattle.verilog_tree.specs.Rules.{item_break}
use Rattle.verilog_tree.proofs.examples.shift_by_the_width.Goals as goal

pub returns-clause-legal : goal.returns-clause-legal
unfolding item_break
returns-clause-legal c = refl
