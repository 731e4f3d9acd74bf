use Rattle.std.proofs.Common.{refl}
use Rattle.verilog_tree.specs.Rules.{item_break}
use Rattle.verilog_tree.proofs.examples.broken_rules.Goals as goal

pub returns-clause-widths : goal.returns-clause-widths
unfolding item_break
returns-clause-widths c = refl

pub returns-clause-blocks : goal.returns-clause-blocks
unfolding item_break
returns-clause-blocks c = refl
