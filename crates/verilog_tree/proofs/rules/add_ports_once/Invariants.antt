use Rattle.std.proofs.Common.{◌≡◌, ◌++◌, map, drop}
use Rattle.verilog_tree.specs.Plain.{plain_port}
use Rattle.verilog_tree.specs.Names.{port_declarations}
use Rattle.verilog_tree.specs.Rules.{port_twice}
use Rattle.verilog_tree.proofs.rules.add_ports_once.Given as goal

abbrev pub invariant-loop-port : goal.invariant-loop-port
invariant-loop-port l =
    let rest = port_declarations (map plain_port (drop l.port-index l.ports)) in
    let all = port_declarations (map plain_port l.ports) in
    (port_twice l.all rest ≡ port_twice l.initial.all all) × (l.all ++ rest ≡ l.initial.all ++ all)
