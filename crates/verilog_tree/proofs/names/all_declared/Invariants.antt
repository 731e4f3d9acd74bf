use Rattle.std.proofs.Common.{◌≡◌, ◌++◌, map, drop}
use Rattle.verilog_tree.specs.Plain.{plain_port}
use Rattle.verilog_tree.specs.Names.{port_declarations}
use Rattle.verilog_tree.specs.Seen.{declaration}
use Rattle.verilog_tree.proofs.names.all_declared.Given as goal

abbrev pub invariant-loop-port : goal.invariant-loop-port
invariant-loop-port l = map declaration l.all.items ++ port_declarations (map plain_port (drop l.port-index l.port-items)) ≡ port_declarations (map plain_port l.port-items)
