-- What is known of `vectors`.
use Rattle.bist_app.proofs.Common.{Ok, ap, sym, ◌∙◌, ◌≡◌, FitsLength, leaves_conclude, then_concludes, Done, answer_of, march_settles, memory_settles, InputMarch, InputMemory}
use Rattle.bist_app.proofs.Facts.{Facts, files_facts}
use Rattle.bist_app.proofs.SharedFacts.{length_settles}
use Rattle.bist_app.specs.Vectors.{DecidesVectors, LeavesVectors, vectors_done, vectors_form, vectors_row}

pub vectors_facts : Facts vectors_row
unfolding LeavesVectors
vectors_facts = files_facts vectors_form DecidesVectors (λ outputs. outputs) (λ files words.
    then_concludes (InputMarch files words 1) _ (march_settles files words 1) (λ march _.
    then_concludes (InputMemory files words 2) _ (memory_settles files words 2) (λ d _.
    then_concludes (FitsLength march d) _ (length_settles march d) (λ _ _.
    leaves_conclude (λ done. done ≡ vectors_done march d) (λ told tells x y f g. ap (λ (done : Done). answer_of (Ok done)) (f ∙ sym g))
    (λ told x y f g. ap (λ (done : Done). done.outputs) (f ∙ sym g))))))
