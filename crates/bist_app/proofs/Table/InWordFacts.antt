-- What is known of `inword`.
use Rattle.bist_app.proofs.Common.{List, [], ap, sym, ◌∙◌, ◌∷◌, ◌≡◌, leaves_conclude, then_concludes, Done, Written, list_settles, march_settles, memory_settles, InputList, InputMarch, InputMemory, Item, MarchElement, Description}
use Rattle.word_coupling.specs.Words.{DetectsInWord}
use Rattle.word_coupling.specs.Report.{judged_in, IsInWordReport}
use Rattle.word_coupling.proofs.Reports.{one_in_word_text}
use Rattle.bist_app.proofs.Facts.{Facts, files_facts}
use Rattle.bist_app.proofs.OneReported.{reports_one}
use Rattle.bist_app.specs.InWord.{DecidesInWord, IsJudgedInWord, LeavesInWord, in_word_form, in_word_row}

files_one : (march : List MarchElement) (m : Description) (items : List Item) (d e : Done) → IsJudgedInWord march m items d → IsJudgedInWord march m items e → d.outputs ≡ e.outputs
files_one march m items d e f g =
    f.outputs ∙ ap (λ b. (let w : List Written = (record { position = 4; bytes = b }) ∷ [] in w)) (one_in_word_text march m items f.bytes g.bytes f.reports.report g.reports.report) ∙ sym g.outputs

pub in_word_facts : Facts in_word_row
unfolding LeavesInWord
in_word_facts = files_facts in_word_form DecidesInWord (λ outputs. outputs) (λ files words.
    then_concludes (InputMarch files words 1) _ (march_settles files words 1) (λ march _.
    then_concludes (InputMemory files words 2) _ (memory_settles files words 2) (λ m _.
    then_concludes (InputList files words 3) _ (list_settles files words 3) (λ items _.
    leaves_conclude (IsJudgedInWord march m items) (λ told tells d e f g. reports_one (λ text. IsInWordReport text march m items) (DetectsInWord march m) (judged_in m items) d.found e.found f.bytes g.bytes d.line e.line f.reports g.reports)
    (λ told. files_one march m items)))))
