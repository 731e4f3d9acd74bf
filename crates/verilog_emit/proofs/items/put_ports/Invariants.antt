use Rattle.std.proofs.Common.{◌≡◌, ◌++◌, map, length}
use Rattle.verilog_tree.specs.Plain.{plain_port}
use Rattle.verilog_emit.specs.Printed.{ports_text}
use Rattle.verilog_emit.proofs.items.put_ports.Given as goal

abbrev pub invariant-loop-port : goal.invariant-loop-port
invariant-loop-port l = l.out.items ++ ports_text (map plain_port l.left) ≡ l.initial.out.items ++ ports_text (map plain_port l.ports)

abbrev pub decreases-loop-port : goal.decreases-loop-port
decreases-loop-port l = length l.left
