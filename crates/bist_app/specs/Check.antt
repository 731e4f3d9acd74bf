-- Trusted. The command `check VERILOG MARCH MEMORY`: whether the module of a file issues the commands of a march, whatever its registers hold at first and
-- whatever words return. Its checks in their order, and what it leaves.
use Rattle.std.specs.Prelude.{◌≡◌, ◌++◌, ℕ, List, [], Option, Result, codes, decimal}
use Rattle.bist_host.specs.Files.{Files}
use Rattle.verilog_tree.specs.Plain.{ModuleTree}
use Rattle.verilog_tree.specs.Grammar.{ByPrecedence}
use Rattle.march_core.specs.March.{MarchElement}
use Rattle.memory_desc.specs.Descriptions.{Description}
use Rattle.port_check.specs.declared.answer.PortAnswer.{PortAnswer}
use Rattle.port_check.specs.Answers.{IsAnswer, is_amiss}
use Rattle.bist_endings.specs.declared.ending.Refusal.{Refusal}
use Rattle.bist_endings.specs.Ending.{Done, numbered_line}
use Rattle.bist_endings.specs.Then.{Then, OrNoMemory}
use Rattle.bist_endings.specs.Words.{Words}
use Rattle.bist_inputs.specs.Inputs.{InputMarch}
use Rattle.bist_inputs.specs.Memories.{InputMemory}
use Rattle.bist_inputs.specs.Designs.{InputModule}
use Rattle.bist_app.specs.Forms.{Form, Row, without_boxes}
use Rattle.bist_app.specs.Shared.{FitsLength, HasPorts}

abbrev pub at_text : ℕ → List ℕ → List ℕ
at_text cycle port = decimal cycle ++ codes " port " ++ port

abbrev pub check_line : PortAnswer → List ℕ
check_line (PortAnswer.Conforms cycles) = numbered_line (codes "conforms ") cycles
check_line (PortAnswer.Differs cycle port expected got) =
    codes "differs cycle " ++ at_text cycle port.bytes ++ codes " expected " ++ decimal expected ++ codes " got "
    ++ decimal got ++ codes "\n"
check_line (PortAnswer.Unknown cycle port) = codes "unknown cycle " ++ at_text cycle port.bytes ++ codes "\n"

-- no file, and the line; the status is 1 exactly where the module isn't seen to conform
abbrev pub check_done : PortAnswer → Done
check_done answer = record { found = is_amiss answer; outputs = []; line = check_line answer }

-- the answer of the module's open run, told
pub record IsChecked (mo : ModuleTree) (march : List MarchElement) (d : Description) (done : Done) : Type 0 where
  pub answer : PortAnswer
  pub is_answer : IsAnswer mo march d answer
  pub done_is : done ≡ check_done answer

unfoldable pub LeavesCheck : ModuleTree → List MarchElement → Description → Result Done Refusal → Type 0
LeavesCheck mo march d = OrNoMemory (IsChecked mo march d)

-- the checks behind the inputs, in their order, and the open run
abbrev pub ChecksRun : ModuleTree → List MarchElement → Description → Result Done Refusal → Type 0
ChecksRun mo march d =
    Then (FitsLength march d) (λ _.
    Then (HasPorts d mo) (λ _.
    LeavesCheck mo march d))

-- the other inputs behind the module, and these checks
abbrev pub DecidesRun : Option Files → Words → ModuleTree → Result Done Refusal → Type 0
DecidesRun files words mo =
    Then (InputMarch files words 2) (λ march.
    Then (InputMemory files words 3) (λ d.
    ChecksRun mo march d))

-- the checks of `check` in their order
abbrev pub DecidesCheck : Option Files → Words → Result Done Refusal → Type 0
DecidesCheck files words = Then (InputModule ByPrecedence files words 1) (λ mo. DecidesRun files words mo)

-- ---- the row

abbrev pub check_form : Form
check_form = record { name = codes "check"; count = 4; first = 1; last = 4 }

abbrev pub check_row : Row
check_row = without_boxes check_form DecidesCheck
