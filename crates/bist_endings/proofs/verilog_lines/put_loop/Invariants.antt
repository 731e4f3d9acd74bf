use Rattle.std.proofs.Common.{◌≡◌, ◌++◌, drop}
use Rattle.bist_endings.specs.Ending.{names_text}
use Rattle.bist_endings.proofs.verilog_lines.put_loop.Given as goal

abbrev pub invariant-loop-name : goal.invariant-loop-name
invariant-loop-name l = l.line.items ++ names_text (drop l.name-index l.names) ≡ l.initial.line.items ++ names_text l.names
