use Rattle.std.proofs.Common.{◌≡◌, map, drop}
use Rattle.verilog_tree.specs.Plain.{plain_port}
use Rattle.verilog_tree.specs.Fits.{ports_fit}
use Rattle.verilog_tree.proofs.layout.fits.Given as goal

abbrev pub invariant-loop-port : goal.invariant-loop-port
invariant-loop-port l = ports_fit (map plain_port (drop l.port-index l.port-items)) ≡ ports_fit (map plain_port l.port-items)
