-- Trusted. The ports of a self-test and a chip, cycle by cycle: what the chip answers in a cycle stands on the port in the next.
use Rattle.std.specs.Prelude.{◌≡◌, ◌↔◌, ◌+◌, ◌<◌, ◌≤◌, ◌^◌, ◌%◌, ℕ, zero, suc, List, length, IsTrue, false}
use Rattle.march_core.specs.March.{MarchElement}
use Rattle.memory_desc.specs.Descriptions.{Description}
use Rattle.word_march.specs.Commands.{port_ops, span}
use Rattle.word_march.specs.PortRule.{PortValues, PortRule, cycle_of}
use Rattle.word_device.specs.declared.device.Planted.{Planted}
use Rattle.word_device.specs.declared.device.PortCmd.{PortCmd}
use Rattle.word_device.specs.declared.shape.Shape.{Shape}
use Rattle.word_device.specs.Ports.{Chip, shape_of, chip_after, cycle_answer}
use Rattle.word_device.specs.Runs.{run_word, AllRight, SomeWrong, IsFirstWrong, HasDetected, IsPlain}

-- what the ports of a cycle say to the memory
abbrev pub command_on : PortValues → PortCmd
command_on q = record { en = q.en; we = q.we; addr = q.addr; wdata = q.wdata }

-- the chip before a cycle
abbrev pub chip_at : Shape → Chip → (ℕ → PortValues) → ℕ → Chip
chip_at shape chip q zero = chip
chip_at shape chip q (suc t) = chip_after shape (chip_at shape chip q t) (command_on (q t))

-- in each cycle up to the last the ports keep their rule, and the word on `rdata` is the low bits of what the chip answered in
-- the cycle before; as many answers were under way at the start as the memory's latency asks for
pub record Joined (march : List MarchElement) (d : Description) (chip : Chip) (q : ℕ → PortValues) (returned : ℕ → ℕ)
    (last : ℕ) : Type 0 where
  pub under_way : length chip.pending + 1 ≡ d.latency
  pub rule : (t : ℕ) → t ≤ last → PortRule march d returned t (q t)
  pub answer : (t : ℕ) → t < last → returned (suc t)
      ≡ cycle_answer (shape_of d) (chip_at (shape_of d) chip q t) (command_on (q t)) % 2 ^ d.bits
  -- the last answer has come by then
  pub late : span march d + 1 + d.latency ≤ last

-- the word on `rdata` that answers command j
abbrev pub returned_word : List MarchElement → Description → (ℕ → ℕ) → ℕ → ℕ
returned_word march d returned j = returned (cycle_of march d j + d.latency)

-- with a planted instance of a detected primitive the test ends with `fail`
pub record EndsFailing (q : PortValues) : Type 0 where
  pub done : IsTrue q.done
  pub fail : IsTrue q.fail

abbrev pub JointFails : List MarchElement → Description → Type 0
JointFails march d =
    (chip : Chip) (i : Planted) (q : ℕ → PortValues) (returned : ℕ → ℕ) (last : ℕ)
    → HasDetected march d i chip → Joined march d chip q returned last → EndsFailing (q last)

-- with nothing planted it ends without, and every word that returned is right
pub record EndsPassing (march : List MarchElement) (d : Description) (returned : ℕ → ℕ) (q : PortValues) : Type 0 where
  pub done : IsTrue q.done
  pub passes : q.fail ≡ false
  pub right : AllRight march d (returned_word march d returned)

abbrev pub JointPasses : List MarchElement → Description → Type 0
JointPasses march d =
    (chip : Chip) (q : ℕ → PortValues) (returned : ℕ → ℕ) (last : ℕ)
    → IsPlain d chip → Joined march d chip q returned last → EndsPassing march d returned (q last)

-- what returns to the reads is what the chip alone answers to the run
abbrev pub SameWords : List MarchElement → Description → Type 0
SameWords march d =
    (chip : Chip) (q : ℕ → PortValues) (returned : ℕ → ℕ) (last j : ℕ) → Joined march d chip q returned last
    → j < length (port_ops march d) → returned_word march d returned j ≡ run_word march d chip j

-- so the test is done, and has failed exactly where the chip alone answers some read wrong
pub record EndsAs (march : List MarchElement) (d : Description) (chip : Chip) (q : PortValues) : Type 0 where
  pub done : IsTrue q.done
  pub fail : IsTrue q.fail ↔ SomeWrong march d (run_word march d chip)

abbrev pub JointEnds : List MarchElement → Description → Type 0
JointEnds march d =
    (chip : Chip) (q : ℕ → PortValues) (returned : ℕ → ℕ) (last : ℕ) → Joined march d chip q returned last → EndsAs march d chip (q last)

-- and the first wrong word is the same
abbrev pub SameFirst : List MarchElement → Description → Type 0
SameFirst march d =
    (chip : Chip) (q : ℕ → PortValues) (returned : ℕ → ℕ) (last j : ℕ) → Joined march d chip q returned last
    → IsFirstWrong march d (returned_word march d returned) j ↔ IsFirstWrong march d (run_word march d chip) j
