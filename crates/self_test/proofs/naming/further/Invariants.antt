use Rattle.std.proofs.Common.{◌≡◌, map, drop, take, []}
use Rattle.verilog_tree.specs.Plain.{plain_port}
use Rattle.self_test.specs.WrongPort.{further}
use Rattle.self_test.proofs.naming.further.Given as goal

abbrev pub invariant-loop-i : goal.invariant-loop-i
invariant-loop-i l = further (map plain_port l.list) (map plain_port (take l.i l.ports)) (map plain_port (drop l.i l.ports)) ≡ further (map plain_port l.list) [] (map plain_port l.ports)
