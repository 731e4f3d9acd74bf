-- Public. Where the ports of a self-test stand among a module's ports.
use Rattle.std.specs.Prelude.{◌≡◌, ℕ, Bool, false, not, ◌&&◌, if◌then◌else◌, List, [], ◌∷◌, codes}
use Rattle.std.specs.Str.{bytes_eq}
use Rattle.verilog_tree.specs.Plain.{ModulePort}
use Rattle.verilog_tree.specs.Names.{is_clk, number}
use Rattle.self_test.specs.WrongPort.{is_input}
use Rattle.self_test.specs.declared.pins.Pins.{Pins}

-- the names of the outputs, in their order
abbrev pub output_names : List ModulePort → List (List ℕ)
output_names [] = []
output_names (p ∷ ps) = if is_input p.dir then output_names ps else p.name ∷ output_names ps

-- whether `reset` is the first input besides the clock
abbrev pub reset_leads : List ModulePort → Bool
reset_leads [] = false
reset_leads (p ∷ ps) = if is_input p.dir && not (is_clk p.name) then bytes_eq p.name (codes "reset") else reset_leads ps

-- these are the places: an output has as many others before it, in whatever order the ports are
pub record ArePins (ports : List ModulePort) (pins : Pins) : Type 0 where
  pub reset_first : pins.reset_first ≡ reset_leads ports
  pub en : pins.en ≡ number (output_names ports) (codes "en")
  pub we : pins.we ≡ number (output_names ports) (codes "we")
  pub addr : pins.addr ≡ number (output_names ports) (codes "addr")
  pub wdata : pins.wdata ≡ number (output_names ports) (codes "wdata")
  pub done : pins.done ≡ number (output_names ports) (codes "done")
  pub fail : pins.fail ≡ number (output_names ports) (codes "fail")
