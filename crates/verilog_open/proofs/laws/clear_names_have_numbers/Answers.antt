use Rattle.verilog_open.proofs.Known.{clear_are_known}
use Rattle.verilog_open.proofs.laws.clear_names_have_numbers.Goals as goal

pub returns : goal.returns
returns c = clear_are_known
