-- What is known of `judge`.
use Rattle.bist_app.proofs.Common.{List, None, [], ap, sym, ◌∙◌, ◌∷◌, ◌≡◌, leaves_conclude, then_concludes, Done, Written, list_settles, march_settles, InputList, InputMarch, Item, MarchElement, text_one}
use Rattle.bist_app.proofs.Facts.{Facts, files_facts}
use Rattle.bist_app.proofs.OneReported.{reports_one}
use Rattle.report.specs.Items.{DetectsItem}
use Rattle.bist_app.specs.Judge.{DecidesJudge, IsJudged, LeavesJudge, judge_form, judge_row}

files_one : (march : List MarchElement) (items : List Item) (d e : Done) → IsJudged march items d → IsJudged march items e → d.outputs ≡ e.outputs
files_one march items d e f g =
    f.outputs ∙ ap (λ b. (let w : List Written = (record { position = 3; bytes = b }) ∷ [] in w)) (text_one march None items f.bytes g.bytes f.reports.report g.reports.report) ∙ sym g.outputs

pub judge_facts : Facts judge_row
unfolding LeavesJudge
judge_facts = files_facts judge_form DecidesJudge (λ outputs. outputs) (λ files words.
    then_concludes (InputMarch files words 1) _ (march_settles files words 1) (λ march _.
    then_concludes (InputList files words 2) _ (list_settles files words 2) (λ items _.
    leaves_conclude (IsJudged march items) (λ told tells d e f g. reports_one _ (DetectsItem march) items d.found e.found f.bytes g.bytes d.line e.line f.reports g.reports)
    (λ told. files_one march items))))
