use Rattle.std.proofs.Common.{Some}
use Rattle.verilog_tree.specs.Spells.{all_limits}
use Rattle.verilog_text.proofs.Freely.{nothing_else, freely_too}
use Rattle.verilog_text.proofs.laws.parentheses_mean_the_same.Goals as goal

pub returns-clause-no_other : goal.returns-clause-no_other
returns-clause-no_other c = nothing_else

pub returns-clause-its_own : goal.returns-clause-its_own
returns-clause-its_own c = λ b v s few. freely_too (Some 256) all_limits b v few s
