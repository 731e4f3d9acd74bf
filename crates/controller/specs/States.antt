-- Public. The controller as contracts see it, and what it mirrors.
use Rattle.std.specs.Prelude.{◌≡◌, ◌≢◌, ℕ, ◌+◌, ◌<◌, Bool, false, List, Option, Some, None, length, slice_get}
use Rattle.std.specs.List.{AllByRecursion}
use Rattle.word_march.specs.declared.operations.PortOp.{PortOp}
use Rattle.word_march.specs.Commands.{port_ops}
use Rattle.word_march.specs.PortRule.{PortValues, cycle_of}
use Rattle.microcode.specs.declared.code.Instr.{Instr}
use Rattle.microcode.specs.declared.place.CodePlace.{CodePlace}
use Rattle.controller.specs.declared.stage.Stage.{Stage}
use Rattle.controller.specs.declared.control.Ports.{Ports}
use Rattle.march_core.specs.March.{MarchElement}
use Rattle.memory_desc.specs.Descriptions.{Description}
use Rattle.controller.specs.Machine.{Control}
use Rattle.controller.specs.Standing.{Stands}
use Rattle.microcode.specs.Running.{digits}
use Rattle.controller.specs.Running.{IsAt, IsSomewhere}

pub record State : Type 0 where
  pub code : List Instr
  pub memory : Description
  pub place : CodePlace
  pub run : Bool
  pub stages : List Stage
  pub reads : Bool
  pub over : Bool
  pub want : ℕ
  pub bad : Bool

-- the controller of the march
abbrev pub control_of : State → Control
control_of s = record { place = digits s.place; run = s.run; stages = s.stages; reads = s.reads; over = s.over; want = s.want; bad = s.bad }

-- a stage's background is one of the memory's
abbrev pub IsKnown : Description → Stage → Type 0
IsKnown d s = s.back < length d.backgrounds

-- a controller of the code of some march
pub record IsControl (s : State) : Type 0 where
  pub somewhere : IsSomewhere s.code s.memory s.place
  pub count : length s.stages + 1 ≡ s.memory.latency
  pub known : AllByRecursion (IsKnown s.memory) s.stages

-- the controller of a march's code and a memory stands in cycle k+1 of the run, where `returned` are the words on `rdata`, by
-- cycle
pub record StandsIn (march : List MarchElement) (d : Description) (s : State) (returned : ℕ → ℕ) (k : ℕ) : Type 0 where
  pub memory : s.memory ≡ d
  pub there : IsAt march s.code s.memory s.place
  pub stands : Stands march s.memory returned k (control_of s)

abbrev pub values : Ports → PortValues
values p = record { en = p.en; we = p.we; addr = p.addr; wdata = p.wdata; done = p.done; fail = p.fail }

-- the read whose answer stands on `rdata` in cycle t expects this word; none where no read is answered then
abbrev pub IsExpected : List MarchElement → Description → ℕ → Option ℕ → Type 0
IsExpected march d t None =
    (j : ℕ) (c : PortOp) → slice_get (port_ops march d) j ≡ Some c → c.write ≡ false → t ≢ cycle_of march d j + d.latency
IsExpected march d t (Some word) =
    (j : ℕ) × (c : PortOp) × (slice_get (port_ops march d) j ≡ Some c) × (c.write ≡ false)
    × (t ≡ cycle_of march d j + d.latency) × (word ≡ c.word)
