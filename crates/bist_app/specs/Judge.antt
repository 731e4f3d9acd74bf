-- Trusted. The command `judge MARCH FAULTS REPORT`: its shape, its checks in their order, and what it leaves.
use Rattle.std.specs.Prelude.{◌≡◌, ℕ, List, [], ◌∷◌, Option, None, Result, codes}
use Rattle.bist_host.specs.Files.{Files}
use Rattle.march_core.specs.March.{MarchElement}
use Rattle.dynamic_core.specs.declared.item.Item.{Item}
use Rattle.bist_endings.specs.declared.ending.Refusal.{Refusal}
use Rattle.bist_endings.specs.Ending.{Done}
use Rattle.bist_endings.specs.Then.{Then, OrNoMemory}
use Rattle.bist_endings.specs.Words.{Words}
use Rattle.bist_inputs.specs.Inputs.{InputMarch, InputList}
use Rattle.bist_app.specs.Reported.{Reports}
use Rattle.bist_app.specs.Forms.{Form, Row, without_boxes}

-- the report in the file that the third word names, and its last line
pub record IsJudged (march : List MarchElement) (items : List Item) (done : Done) : Type 0 where
  pub bytes : List ℕ
  pub reports : Reports march None items done.found bytes done.line
  pub outputs : done.outputs ≡ (record { position = 3; bytes = bytes }) ∷ []

unfoldable pub LeavesJudge : List MarchElement → List Item → Result Done Refusal → Type 0
LeavesJudge march items = OrNoMemory (IsJudged march items)

-- the checks of `judge` in their order
abbrev pub DecidesJudge : Option Files → Words → Result Done Refusal → Type 0
DecidesJudge files words =
    Then (InputMarch files words 1) (λ march.
    Then (InputList files words 2) (λ items.
    LeavesJudge march items))

-- ---- the row

abbrev pub judge_form : Form
judge_form = record { name = codes "judge"; count = 4; first = 1; last = 4 }

abbrev pub judge_row : Row
judge_row = without_boxes judge_form DecidesJudge
