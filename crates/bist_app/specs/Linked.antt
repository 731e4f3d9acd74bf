-- Trusted. The command `linked MARCH REPORT`: its shape, its checks in their order, and what it leaves.
use Rattle.std.specs.Prelude.{◌≡◌, ℕ, List, [], ◌∷◌, Option, Result, codes}
use Rattle.bist_host.specs.Files.{Files}
use Rattle.march_core.specs.March.{MarchElement}
use Rattle.linked_report.specs.Report.{ReportsLinks}
use Rattle.bist_endings.specs.declared.ending.Refusal.{Refusal}
use Rattle.bist_endings.specs.Ending.{Done}
use Rattle.bist_endings.specs.Then.{Then, OrNoMemory}
use Rattle.bist_endings.specs.Words.{Words}
use Rattle.bist_inputs.specs.Inputs.{InputMarch}
use Rattle.bist_app.specs.Forms.{Form, Row, without_boxes}

-- the report in the file that the second word names, and its last line
pub record IsLinkedDone (march : List MarchElement) (done : Done) : Type 0 where
  pub bytes : List ℕ
  pub reports : ReportsLinks march done.found bytes done.line
  pub outputs : done.outputs ≡ (record { position = 2; bytes = bytes }) ∷ []

unfoldable pub LeavesLinked : List MarchElement → Result Done Refusal → Type 0
LeavesLinked march = OrNoMemory (IsLinkedDone march)

-- the checks of `linked` in their order
abbrev pub DecidesLinked : Option Files → Words → Result Done Refusal → Type 0
DecidesLinked files words = Then (InputMarch files words 1) (λ march. LeavesLinked march)

-- ---- the row

abbrev pub linked_form : Form
linked_form = record { name = codes "linked"; count = 3; first = 1; last = 3 }

abbrev pub linked_row : Row
linked_row = without_boxes linked_form DecidesLinked
