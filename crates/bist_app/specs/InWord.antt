-- Trusted. The command `inword MARCH MEMORY FAULTS REPORT`: its shape, its checks in their order, and what it leaves.
use Rattle.std.specs.Prelude.{◌≡◌, ℕ, List, [], ◌∷◌, Option, Result, codes}
use Rattle.bist_host.specs.Files.{Files}
use Rattle.march_core.specs.March.{MarchElement}
use Rattle.memory_desc.specs.Descriptions.{Description}
use Rattle.dynamic_core.specs.declared.item.Item.{Item}
use Rattle.word_coupling.specs.Report.{ReportsInWord}
use Rattle.bist_endings.specs.declared.ending.Refusal.{Refusal}
use Rattle.bist_endings.specs.Ending.{Done}
use Rattle.bist_endings.specs.Then.{Then, OrNoMemory}
use Rattle.bist_endings.specs.Words.{Words}
use Rattle.bist_inputs.specs.Inputs.{InputMarch, InputList}
use Rattle.bist_inputs.specs.Memories.{InputMemory}
use Rattle.bist_app.specs.Forms.{Form, Row, without_boxes}

-- the report in the file that the fourth word names, and its last line
pub record IsJudgedInWord (march : List MarchElement) (d : Description) (items : List Item) (done : Done) : Type 0 where
  pub bytes : List ℕ
  pub reports : ReportsInWord march d items done.found bytes done.line
  pub outputs : done.outputs ≡ (record { position = 4; bytes = bytes }) ∷ []

unfoldable pub LeavesInWord : List MarchElement → Description → List Item → Result Done Refusal → Type 0
LeavesInWord march d items = OrNoMemory (IsJudgedInWord march d items)

-- the checks of `inword` in their order
abbrev pub DecidesInWord : Option Files → Words → Result Done Refusal → Type 0
DecidesInWord files words =
    Then (InputMarch files words 1) (λ march.
    Then (InputMemory files words 2) (λ d.
    Then (InputList files words 3) (λ items.
    LeavesInWord march d items)))

-- ---- the row

abbrev pub in_word_form : Form
in_word_form = record { name = codes "inword"; count = 5; first = 1; last = 5 }

abbrev pub in_word_row : Row
in_word_row = without_boxes in_word_form DecidesInWord
