-- Trusted. What a module is that tests a memory by a march, whatever its registers hold at first and whatever words return.
use Rattle.std.specs.Prelude.{◌≡◌, ℕ, zero, suc, List, [], ◌∷◌, ◌++◌, Some, None, slice_get, slice_index, codes}
use Rattle.verilog_tree.specs.Plain.{ModuleTree}
use Rattle.verilog_tree.specs.Meaning.{Env, History}
use Rattle.verilog_tree.specs.Rules.{first_break}
use Rattle.verilog_tree.specs.Wires.{IsLoop, Starts, OneSettles}
use Rattle.march_core.specs.March.{MarchElement}
use Rattle.memory_desc.specs.Descriptions.{Description}
use Rattle.word_march.specs.PortRule.{PortRule}
use Rattle.self_test.specs.Ports.{ports, port_values}

-- the value of `reset` in cycle t: 1 in the first cycle alone
abbrev pub reset_at : ℕ → ℕ
reset_at zero = 1
reset_at (suc t) = 0

-- the inputs of the cycles from t on: one reset, in the first cycle of all, and these words on `rdata`
abbrev pub AreInputs : ℕ → List ℕ → List Env → Type 0
AreInputs t [] [] = Unit {0}
AreInputs t (w ∷ ws) (i ∷ is) = (i (codes "reset") ≡ reset_at t) × (i (codes "rdata") ≡ w) × AreInputs (suc t) ws is
AreInputs t words inputs = ⊥

-- each of these cycles meets the rule of the ports
abbrev pub EachMeets : List MarchElement → Description → (ℕ → ℕ) → List Env → Type 0
EachMeets march d returned es = (t : ℕ) (e : Env) → slice_get es t ≡ Some e → PortRule march d returned t (port_values e)

-- the name of the module for a memory of this name
abbrev pub module_name : List ℕ → List ℕ
module_name name = name ++ codes "_bist"

pub record SelfTest (mo : ModuleTree) (march : List MarchElement) (d : Description) : Type 0 where
  pub name : mo.name ≡ module_name d.name
  pub ports : mo.ports ≡ ports d
  pub legal : first_break mo ≡ None
  pub no_loop : (names : List (List ℕ)) → IsLoop mo names → ⊥
  -- in each cycle, whatever the registers and the inputs hold within their widths, exactly one environment settles
  pub settles : (regs ins : Env) → Starts mo regs ins → OneSettles mo regs ins
  -- with any registers at first and any words that return, every history meets the rule of the ports in each of its cycles
  pub meets : (regs : Env) (words : List ℕ) (is es : List Env) → AreInputs 0 words is → History mo regs is es
      → EachMeets march d (slice_index words) es
