-- What is known of `decoder`.
use Rattle.bist_app.proofs.Common.{List, [], ap, sym, ◌∙◌, ◌∷◌, ◌≡◌, leaves_conclude, then_concludes, Done, Written, march_settles, InputMarch, MarchElement}
use Rattle.decoder_faults.specs.Detection.{DetectsDecoder}
use Rattle.decoder_report.specs.Report.{fault_order, IsDecoderReport}
use Rattle.decoder_report.proofs.OneReport.{text_one}
use Rattle.bist_app.proofs.Facts.{Facts, files_facts}
use Rattle.bist_app.proofs.OneReported.{reports_one}
use Rattle.bist_app.specs.Decoder.{DecidesDecoder, IsDecoderDone, LeavesDecoder, decoder_form, decoder_row}

files_one : (march : List MarchElement) (d e : Done) → IsDecoderDone march d → IsDecoderDone march e → d.outputs ≡ e.outputs
files_one march d e f g =
    f.outputs ∙ ap (λ b. (let w : List Written = (record { position = 2; bytes = b }) ∷ [] in w)) (text_one march f.bytes g.bytes f.reports.report g.reports.report) ∙ sym g.outputs

pub decoder_facts : Facts decoder_row
unfolding LeavesDecoder
decoder_facts = files_facts decoder_form DecidesDecoder (λ outputs. outputs) (λ files words.
    then_concludes (InputMarch files words 1) _ (march_settles files words 1) (λ march _.
    leaves_conclude (IsDecoderDone march)
    (λ told tells d e f g. reports_one (λ text. IsDecoderReport text march) (DetectsDecoder march) fault_order d.found e.found f.bytes g.bytes d.line e.line f.reports g.reports)
    (λ told. files_one march)))
