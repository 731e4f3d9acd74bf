-- Trusted. The command `benchfile VERILOG MARCH MEMORY`: the module of a file against the first box. Its shape, its checks in their order, and what
-- it leaves.
use Rattle.std.specs.Prelude.{◌≡◌, ℕ, Bool, List, [], ◌∷◌, Option, None, Result, map, codes}
use Rattle.bist_host.specs.Files.{Files}
use Rattle.verilog_tree.specs.Plain.{ModuleTree}
use Rattle.verilog_tree.specs.Grammar.{Parenthesised}
use Rattle.verilog_cycle.specs.Design.{registers_of}
use Rattle.march_core.specs.March.{MarchElement}
use Rattle.memory_desc.specs.Descriptions.{Description}
use Rattle.word_device.specs.Boxes.{Tells}
use Rattle.bench.specs.declared.ending.Seen.{Seen}
use Rattle.bench.specs.Endings.{Runs}
use Rattle.bist_endings.specs.declared.ending.Refusal.{Refusal}
use Rattle.bist_endings.specs.Ending.{Done}
use Rattle.bist_endings.specs.Words.{Words}
use Rattle.bist_inputs.specs.Inputs.{InputMarch}
use Rattle.bist_inputs.specs.Memories.{InputMemory}
use Rattle.bist_inputs.specs.Designs.{InputModule}
use Rattle.bist_app.specs.Forms.{Form, Row}
use Rattle.bist_app.specs.Shared.{Boxes, FirstTells, FitsLength, HasPorts, HasBox, FitsRoom, LeavesFirst, Before}
use Rattle.bist_app.specs.Bench.{ready, benched_done}
use Rattle.bist_endings.specs.Then.{OrNoMemory}

-- each register of the module at 0
abbrev pub zero_registers : ModuleTree → List ℕ
zero_registers mo = map (λ _. 0) (registers_of mo)

-- What is left of a run of the module, with its registers at 0, beside a box that tells this at its beginning: the status is 1 exactly
-- where `fail` is 1 in the last cycle, and the line tells it, the first cycle with `done` and the first read that differs.
pub record IsFileRun (mo : ModuleTree) (march : List MarchElement) (d : Description) (tells : Tells) (done : Done) : Type 0 where
  pub now : List ℕ
  pub after : Tells
  pub failed : Bool
  pub done_in : Option ℕ
  pub seen : Option Seen
  pub runs : Runs mo march d (zero_registers mo) now tells after failed done_in seen
  pub done_is : done ≡ benched_done d.bits failed done_in seen

unfoldable pub LeavesBenchFile : ModuleTree → List MarchElement → Description → Boxes → Result Done Refusal → Type 0
LeavesBenchFile mo march d [] result = ⊥
LeavesBenchFile mo march d (box ∷ boxes) result = OrNoMemory (IsFileRun mo march d (ready d None box.tells)) result

-- the checks behind the inputs, in their order, and the run
abbrev pub TestsFile : ModuleTree → List MarchElement → Description → Boxes → Boxes → Result Done Refusal → Type 0
TestsFile mo march d boxes left =
    Before boxes left (FitsLength march d) (λ _.
    Before boxes left (HasPorts d mo) (λ _.
    Before boxes left (HasBox boxes) (λ _.
    Before boxes left (FitsRoom d boxes) (λ _ outcome.
    LeavesBenchFile mo march d boxes outcome × LeavesFirst boxes left outcome))))

-- the other inputs behind the module, and these checks
abbrev pub DecidesFileRun : Option Files → Boxes → Boxes → Words → ModuleTree → Result Done Refusal → Type 0
DecidesFileRun files boxes left words mo =
    Before boxes left (InputMarch files words 2) (λ march.
    Before boxes left (InputMemory files words 3) (λ d.
    TestsFile mo march d boxes left))

-- the checks of `benchfile` in their order
abbrev pub DecidesBenchFile : Option Files → Boxes → Boxes → Words → Result Done Refusal → Type 0
DecidesBenchFile files boxes left words = Before boxes left (InputModule Parenthesised files words 1)
    (λ mo. DecidesFileRun files boxes left words mo)

-- ---- the row

abbrev pub bench_file_form : Form
bench_file_form = record { name = codes "benchfile"; count = 4; first = 1; last = 4 }

abbrev pub bench_file_row : Row
bench_file_row = record {
  form = bench_file_form;
  says = λ words. Unit {0};
  decides = λ files boxes left words outcome. DecidesBenchFile files boxes left words outcome;
  called_tell = λ boxes. FirstTells boxes;
  settled = λ outputs. outputs;
}
