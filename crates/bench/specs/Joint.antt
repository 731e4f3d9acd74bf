-- Trusted. A module and a boxed memory, cycle by cycle: the outputs of a cycle command the box, and its answer stands on `rdata` in the next.
use Rattle.std.specs.Prelude.{◌≡◌, ◌%◌, ◌^◌, ◌+◌, ℕ, zero, suc, Bool, false, if◌then◌else◌, List, [], ◌∷◌, Option, Some, None, codes}
use Rattle.verilog_tree.specs.Plain.{ModuleTree}
use Rattle.verilog_tree.specs.Meaning.{Env, Settles, next}
use Rattle.memory_desc.specs.Descriptions.{Description}
use Rattle.word_march.specs.PortRule.{PortValues}
use Rattle.self_test.specs.Ports.{port_values}
use Rattle.self_test.specs.SelfTest.{reset_at}
use Rattle.word_device.specs.Ports.{shape_of}
use Rattle.word_device.specs.Boxes.{Tells, after_cycle, Answers}
use Rattle.word_device.specs.Joint.{command_on}

-- what stands between two cycles: the registers, the word on `rdata` in the cycle to come, and what the box tells
pub record Between : Type 0 where
  pub registers : Env
  pub rdata : ℕ
  pub box : Tells

-- cycle t, in which the environment e settles, from one state to the next
pub record Turn (mo : ModuleTree) (d : Description) (t : ℕ) (e : Env) (before after : Between) : Type 0 where
  pub inputs : Env
  pub reset : inputs (codes "reset") ≡ reset_at t
  pub rdata : inputs (codes "rdata") ≡ before.rdata
  pub settles : Settles mo before.registers inputs e
  -- the box does the command of this cycle, and the low bits of its answer come back
  pub answer : ℕ
  pub answers : Answers (Some (shape_of d)) (command_on (port_values e)) before.box answer
  pub left :
      after ≡ record {
        registers = next mo e;
        rdata = answer % 2 ^ d.bits;
        box = after_cycle (Some (shape_of d))
            (command_on (port_values e)) before.box;
      }

-- the cycles from t on, one after another
abbrev pub Joint : ModuleTree → Description → ℕ → List Env → Between → Between → Type 0
Joint mo d t [] before after = before ≡ after
Joint mo d t (e ∷ es) before after = (between : Between) × Turn mo d t e before between × Joint mo d (suc t) es between after

-- before the first cycle: any registers, the word 0 on `rdata`
abbrev pub at_first : Env → Tells → Between
at_first registers box = record { registers = registers; rdata = 0; box = box }

-- the word on `rdata` in a cycle, and the outputs; nothing stands there behind the last
abbrev pub word_in : List Env → ℕ → ℕ
word_in [] t = 0
word_in (e ∷ es) zero = e (codes "rdata")
word_in (e ∷ es) (suc t) = word_in es t

abbrev pub nothing : PortValues
nothing = record { en = false; we = false; addr = 0; wdata = 0; done = false; fail = false }

abbrev pub ports_in : List Env → ℕ → PortValues
ports_in [] t = nothing
ports_in (e ∷ es) zero = port_values e
ports_in (e ∷ es) (suc t) = ports_in es t

-- the first cycle, counted from k, in which `done` is 1
abbrev pub first_done : ℕ → List Env → Option ℕ
first_done k [] = None
first_done k (e ∷ es) = if (port_values e).done then Some k else first_done (suc k) es
