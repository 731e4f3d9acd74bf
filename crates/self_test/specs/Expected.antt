-- Trusted. The word that a read expects, on `wdata` in the cycle of the read: what compares outside of the module rests on it.
use Rattle.std.specs.Prelude.{◌≡◌, ℕ, false, List, Some, slice_get}
use Rattle.verilog_tree.specs.Plain.{ModuleTree}
use Rattle.verilog_tree.specs.Meaning.{Env, History}
use Rattle.march_core.specs.March.{MarchElement}
use Rattle.memory_desc.specs.Descriptions.{Description}
use Rattle.word_march.specs.declared.operations.PortOp.{PortOp}
use Rattle.word_march.specs.Commands.{port_ops}
use Rattle.word_march.specs.PortRule.{PortValues, cycle_of}
use Rattle.self_test.specs.Ports.{port_values}
use Rattle.self_test.specs.SelfTest.{AreInputs}

-- where cycle t is that of a read, `wdata` has the word that it expects, as the memory inverts it
abbrev pub CarriesExpected : List MarchElement → Description → ℕ → PortValues → Type 0
CarriesExpected march d t q =
    (j : ℕ) (command : PortOp) → slice_get (port_ops march d) j ≡ Some command → command.write ≡ false
    → t ≡ cycle_of march d j → q.wdata ≡ command.word

-- with any registers at first and any words that return, every history does so in each of its cycles
abbrev pub ShowsExpected : ModuleTree → List MarchElement → Description → Type 0
ShowsExpected mo march d =
    (regs : Env) (words : List ℕ) (is es : List Env) → AreInputs 0 words is → History mo regs is es
    → (t : ℕ) (e : Env) → slice_get es t ≡ Some e → CarriesExpected march d t (port_values e)
