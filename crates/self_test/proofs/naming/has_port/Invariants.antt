use Rattle.std.proofs.Common.{◌≡◌, map, drop}
use Rattle.verilog_tree.specs.Plain.{plain_port}
use Rattle.self_test.specs.WrongPort.{has_port}
use Rattle.self_test.proofs.naming.has_port.Given as goal

abbrev pub invariant-loop-other : goal.invariant-loop-other
invariant-loop-other l = has_port (plain_port l.port) (map plain_port (drop l.other-index l.ports)) ≡ has_port (plain_port l.port) (map plain_port l.ports)
