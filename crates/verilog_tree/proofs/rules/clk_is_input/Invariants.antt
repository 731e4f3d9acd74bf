use Rattle.std.proofs.Common.{◌≡◌, map, drop}
use Rattle.verilog_tree.specs.Plain.{plain_port}
use Rattle.verilog_tree.specs.Names.{port_declarations}
use Rattle.verilog_tree.specs.Rules.{port_clock}
use Rattle.verilog_tree.proofs.rules.clk_is_input.Given as goal

abbrev pub invariant-loop-port : goal.invariant-loop-port
invariant-loop-port l = port_clock (port_declarations (map plain_port (drop l.port-index l.ports))) ≡ port_clock (port_declarations (map plain_port l.ports))
