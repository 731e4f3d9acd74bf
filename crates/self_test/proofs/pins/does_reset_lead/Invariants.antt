use Rattle.std.proofs.Common.{◌≡◌, map, drop}
use Rattle.verilog_tree.specs.Plain.{plain_port}
use Rattle.self_test.specs.Pins.{reset_leads}
use Rattle.self_test.proofs.pins.does_reset_lead.Given as goal

abbrev pub invariant-loop-port : goal.invariant-loop-port
invariant-loop-port l = reset_leads (map plain_port (drop l.port-index l.ports)) ≡ reset_leads (map plain_port l.ports)
