-- What is known of `compile`.
use Rattle.bist_app.proofs.Common.{List, Some, [], ap, drop, sym, ◌∙◌, ◌∷◌, ◌≡◌, leaves_conclude, then_concludes, Done, Written, list_settles, march_settles, memory_settles, InputList, InputMarch, InputMemory, Item, MarchElement, Description, text_one}
use Rattle.bist_app.proofs.Facts.{Facts, files_facts}
use Rattle.bist_app.proofs.OneReported.{reports_one}
use Rattle.report.specs.Items.{DetectsItem}
use Rattle.bist_app.specs.Compile.{DecidesCompile, IsCompiled, LeavesCompile, compile_form, compile_row}

files_one : (march : List MarchElement) (m : Description) (items : List Item) (d e : Done) → IsCompiled march m items d → IsCompiled march m items e → drop 1 d.outputs ≡ drop 1 e.outputs
files_one march m items d e f g =
    ap (drop 1) f.outputs
    ∙ ap (λ b. (let w : List Written = (record { position = 5; bytes = b }) ∷ [] in w)) (text_one march (Some m) items f.bytes g.bytes f.reports.report g.reports.report)
    ∙ sym (ap (drop 1) g.outputs)

pub compile_facts : Facts compile_row
unfolding LeavesCompile
compile_facts = files_facts compile_form DecidesCompile (λ outputs. drop 1 outputs) (λ files words.
    then_concludes (InputMarch files words 1) _ (march_settles files words 1) (λ march _.
    then_concludes (InputMemory files words 2) _ (memory_settles files words 2) (λ m _.
    then_concludes (InputList files words 3) _ (list_settles files words 3) (λ items _.
    leaves_conclude (IsCompiled march m items) (λ told tells d e f g. reports_one _ (DetectsItem march) items d.found e.found f.bytes g.bytes d.line e.line f.reports g.reports)
    (λ told. files_one march m items)))))
