-- Trusted. The command `decoder MARCH REPORT`: its shape, its checks in their order, and what it leaves.
use Rattle.std.specs.Prelude.{◌≡◌, ℕ, List, [], ◌∷◌, Option, Result, codes}
use Rattle.bist_host.specs.Files.{Files}
use Rattle.march_core.specs.March.{MarchElement}
use Rattle.decoder_faults.specs.Detection.{DetectsDecoder}
use Rattle.decoder_report.specs.Report.{fault_order, IsDecoderReport}
use Rattle.bist_endings.specs.declared.ending.Refusal.{Refusal}
use Rattle.bist_endings.specs.Ending.{Done}
use Rattle.bist_endings.specs.Then.{Then, OrNoMemory}
use Rattle.bist_endings.specs.Words.{Words}
use Rattle.bist_inputs.specs.Inputs.{InputMarch}
use Rattle.report_lines.specs.Listed.{ReportsOf}
use Rattle.bist_app.specs.Forms.{Form, Row, without_boxes}

-- the report in the file that the second word names, and its last line
pub record IsDecoderDone (march : List MarchElement) (done : Done) : Type 0 where
  pub bytes : List ℕ
  pub reports : ReportsOf (λ text. IsDecoderReport text march) (DetectsDecoder march) fault_order done.found bytes done.line
  pub outputs : done.outputs ≡ (record { position = 2; bytes = bytes }) ∷ []

unfoldable pub LeavesDecoder : List MarchElement → Result Done Refusal → Type 0
LeavesDecoder march = OrNoMemory (IsDecoderDone march)

-- the checks of `decoder` in their order
abbrev pub DecidesDecoder : Option Files → Words → Result Done Refusal → Type 0
DecidesDecoder files words =
    Then (InputMarch files words 1) (λ march.
    LeavesDecoder march)

-- ---- the row

abbrev pub decoder_form : Form
decoder_form = record { name = codes "decoder"; count = 3; first = 1; last = 3 }

abbrev pub decoder_row : Row
decoder_row = without_boxes decoder_form DecidesDecoder
