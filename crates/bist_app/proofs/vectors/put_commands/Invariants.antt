use Rattle.bist_app.proofs.Common.{◌≡◌, ◌++◌, port_ops}
use Rattle.bist_app.specs.Vectors.{command_lines}
use Rattle.bist_app.proofs.vectors.put_commands.Given as goal

-- the commands so far have their lines
abbrev pub invariant-loop-command : goal.invariant-loop-command
invariant-loop-command l = record {
  text : l.text.items ≡ command_lines l.bits l.yielded;
  whole : port_ops l.march l.memory ≡ l.yielded ++ l.command-iterator;
}
