use Rattle.std.proofs.Common.{◌≡◌, map, drop}
use Rattle.verilog_tree.specs.Plain.{plain_port}
use Rattle.self_test.specs.WrongPort.{missing}
use Rattle.self_test.proofs.naming.missing.Given as goal

abbrev pub invariant-loop-port : goal.invariant-loop-port
invariant-loop-port l = missing (map plain_port (drop l.port-index l.list)) (map plain_port l.ports) ≡ missing (map plain_port l.list) (map plain_port l.ports)
