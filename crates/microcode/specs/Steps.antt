-- Public. The run of a march, step by step: which word, and which instruction.
use Rattle.std.specs.Prelude.{◌≡◌, ℕ, ◌≤◌, if◌then◌else◌, List, [], Option, Some, None, map}
use Rattle.march_core.specs.March.{MarchElement, order_of, is_pause, element_at}
use Rattle.march_core.specs.Visits.{MarchStep, pausing, visiting, visits}
use Rattle.march_core.specs.Runs.{upward, up}
use Rattle.microcode.specs.declared.code.Instr.{Instr}
use Rattle.microcode.specs.declared.place.Extent.{Extent}
use Rattle.microcode.specs.declared.place.CodePlace.{CodePlace}
use Rattle.microcode.specs.Code.{instr_of}
use Rattle.microcode.specs.Places.{Place, index_in, rest}
use Rattle.microcode.specs.Running.{digits, IsAt, IsSomewhere}

pub record Step : Type 0 where
  pub index : ℕ
  pub instr : Instr

-- a visit is at its address, and a pause at index 0
abbrev pub step_of : List MarchElement → MarchStep → Step
step_of march (pausing element) = record { index = 0; instr = instr_of (element_at march element) 0 }
step_of march (visiting v) = record { index = v.address; instr = instr_of (element_at march v.element) v.number }

-- one run of the march on so many words
abbrev pub steps : List MarchElement → ℕ → List Step
steps march words = map (step_of march) (visits march (up march) words)

-- ---- where a stepper stands

-- one run, in which a pause is one step
abbrev pub one_run : ℕ → Extent
one_run words = record { words = words; pause = 1; runs = 1 }

pub record Stepping : Type 0 where
  pub code : List Instr
  pub words : ℕ
  pub place : Option CodePlace

abbrev pub step_in : MarchElement → ℕ → ℕ → ℕ → Step
step_in x words visit o =
    record { index = if is_pause x then 0 else index_in (upward (order_of x)) words visit; instr = instr_of x o }

abbrev pub step_at : List MarchElement → ℕ → Place → Step
step_at march words p = step_in (element_at march p.element) words p.visit p.oper

-- the steps that are left at a place, or behind the last
abbrev pub LeavesAt : List MarchElement → List Instr → ℕ → Option CodePlace → List Step → Type 0
LeavesAt march code words None left = left ≡ []
LeavesAt march code words (Some p) left = IsAt march code (one_run words) p
    × (left ≡ rest (step_at march words) march (one_run words) (digits p))

-- a stepper of the code of this march has these steps left
abbrev pub Leaves : List MarchElement → Stepping → List Step → Type 0
Leaves march s left = LeavesAt march s.code s.words s.place left

abbrev pub IsSteppingAt : List Instr → ℕ → Option CodePlace → Type 0
IsSteppingAt code words None = Unit {0}
IsSteppingAt code words (Some p) = IsSomewhere code (one_run words) p

-- a stepper of the code of some march
pub record IsStepping (s : Stepping) : Type 0 where
  pub some : 1 ≤ s.words
  pub somewhere : IsSteppingAt s.code s.words s.place
