use Rattle.verilog_text.proofs.Freely.{nothing_else}
use Rattle.verilog_emit.specs.Printed.{printed}
use Rattle.verilog_emit.proofs.WrittenModule.{printed_spells}
use Rattle.bist_app.proofs.laws.shown_modules_are_read.Goals as goal

pub returns-clause-its_own : goal.returns-clause-its_own
returns-clause-its_own c = printed_spells

pub returns-clause-no_other : goal.returns-clause-no_other
returns-clause-no_other c = λ mo fitting other h. nothing_else (printed mo) mo other (printed_spells mo fitting) h
