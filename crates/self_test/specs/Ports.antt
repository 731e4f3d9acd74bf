-- Trusted. The ports of a self-test module.
use Rattle.std.specs.Prelude.{ℕ, ◌==◌, List, [], ◌∷◌, codes}
use Rattle.verilog_tree.specs.declared.tree.Dir.{Dir}
use Rattle.verilog_tree.specs.declared.tree.Dir.TheVariants.{Input, Output}
use Rattle.verilog_tree.specs.Plain.{ModulePort}
use Rattle.verilog_tree.specs.Meaning.{Env}
use Rattle.memory_desc.specs.Descriptions.{Description}
use Rattle.word_march.specs.PortRule.{PortValues}

abbrev pub port : Dir → List ℕ → ℕ → ModulePort
port dir name width = record { dir = dir; name = name; width = width }

-- the ports, in their order
abbrev pub ports : Description → List ModulePort
ports d =
    port Input (codes "clk") 1 ∷ port Input (codes "reset") 1 ∷ port Input (codes "rdata") d.bits
    ∷ port Output (codes "en") 1 ∷ port Output (codes "we") 1 ∷ port Output (codes "addr") d.scramble.width
    ∷ port Output (codes "wdata") d.bits ∷ port Output (codes "done") 1 ∷ port Output (codes "fail") 1 ∷ []

-- the outputs in a cycle
abbrev pub port_values : Env → PortValues
port_values e = record {
  en = e (codes "en") == 1;
  we = e (codes "we") == 1;
  addr = e (codes "addr");
  wdata = e (codes "wdata");
  done = e (codes "done") == 1;
  fail = e (codes "fail") == 1;
}
