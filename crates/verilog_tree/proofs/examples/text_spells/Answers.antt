use Rattle.verilog_tree.proofs.Spelled.{spells}
use Rattle.verilog_tree.proofs.examples.text_spells.Goals as goal

pub returns : goal.returns
returns c = spells
