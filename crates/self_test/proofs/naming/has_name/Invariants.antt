use Rattle.std.proofs.Common.{◌≡◌, map, drop}
use Rattle.verilog_tree.specs.Plain.{plain_port}
use Rattle.self_test.specs.WrongPort.{has_name}
use Rattle.self_test.proofs.naming.has_name.Given as goal

abbrev pub invariant-loop-other : goal.invariant-loop-other
invariant-loop-other l = has_name l.name.bytes (map plain_port (drop l.other-index l.ports)) ≡ has_name l.name.bytes (map plain_port l.ports)
