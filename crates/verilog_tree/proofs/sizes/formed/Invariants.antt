use Rattle.std.proofs.Common.{◌≡◌, map, drop}
use Rattle.verilog_tree.specs.Plain.{plain_port}
use Rattle.verilog_tree.specs.Formed.{ports_formed}
use Rattle.verilog_tree.proofs.sizes.formed.Given as goal

abbrev pub invariant-loop-port : goal.invariant-loop-port
invariant-loop-port l = ports_formed (map plain_port l.port-items) ≡ ports_formed (map plain_port (drop l.port-index l.port-items))
