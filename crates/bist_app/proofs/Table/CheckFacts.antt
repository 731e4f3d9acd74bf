-- What is known of `check`.
use Rattle.bist_app.proofs.Common.{ℕ, List, Ok, ap, codes, decimal, sym, ◌++◌, ◌∙◌, ◌≡◌, FitsLength, HasPorts, Concludes, leaves_conclude, then_concludes, Done, answer_of, march_settles, memory_settles, CanRun, InputModule, InputMarch, InputMemory, MarchElement, Description, ModuleTree, input_can_run, module_settles, PortAnswer, ByPrecedence}
use Rattle.bist_app.proofs.Facts.{Facts, files_facts}
use Rattle.bist_app.proofs.SharedFacts.{length_settles, ports_settles}
use Rattle.bist_app.specs.Check.{DecidesCheck, IsChecked, LeavesCheck, at_text, check_done, check_form, check_row}
use Rattle.port_check.proofs.Checking.{only_answer}
use Rattle.port_check.specs.Answers.{SameAnswer}

-- the same answer is said in the same way
same_said : (a b : PortAnswer) → SameAnswer a b → answer_of (Ok (check_done a)) ≡ answer_of (Ok (check_done b))
same_said (PortAnswer.Conforms c) (PortAnswer.Conforms e) h = ap (λ (n : ℕ). answer_of (Ok (check_done (PortAnswer.Conforms n)))) h
same_said (PortAnswer.Conforms c) (PortAnswer.Differs t p x g) h = absurd h
same_said (PortAnswer.Conforms c) (PortAnswer.Unknown t p) h = absurd h
same_said (PortAnswer.Differs t p x g) (PortAnswer.Conforms c) h = absurd h
same_said (PortAnswer.Differs t p x g) (PortAnswer.Differs u q y k) (cycle, port, expected, got) = λ j. record {
  status = 1;
  line = codes "differs cycle " ++ at_text (cycle j) (port j) ++ codes " expected " ++ decimal (expected j) ++ codes " got " ++ decimal (got j) ++ codes "\n";
}
same_said (PortAnswer.Differs t p x g) (PortAnswer.Unknown u q) h = absurd h
same_said (PortAnswer.Unknown t p) (PortAnswer.Conforms c) h = absurd h
same_said (PortAnswer.Unknown t p) (PortAnswer.Differs u q y k) h = absurd h
same_said (PortAnswer.Unknown t p) (PortAnswer.Unknown u q) (cycle, port) = λ j. record {
  status = 1;
  line = codes "unknown cycle " ++ at_text (cycle j) (port j) ++ codes "\n";
}

checked_one : (mo : ModuleTree) (march : List MarchElement) (d : Description) (x y : Done) → CanRun mo
    → IsChecked mo march d x → IsChecked mo march d y → answer_of (Ok x) ≡ answer_of (Ok y)
checked_one mo march d x y can f g =
    let same = only_answer mo march d can.wires f.answer can.sizes can.legal can.in_order f.is_answer g.answer g.is_answer in
    ap (λ (z : Done). answer_of (Ok z)) f.done_is ∙ same_said f.answer g.answer same ∙ sym (ap (λ (z : Done). answer_of (Ok z)) g.done_is)

leaves : {Says Told : Type 0} (mo : ModuleTree) (march : List MarchElement) (d : Description) → CanRun mo
    → Concludes Says Told (Unit {0}) (λ outputs. outputs) (LeavesCheck mo march d)
unfolding LeavesCheck
leaves mo march d can =
    leaves_conclude (IsChecked mo march d) (λ told tells x y f g. checked_one mo march d x y can f g)
    (λ told x y f g. ap (λ (z : Done). z.outputs) f.done_is ∙ sym (ap (λ (z : Done). z.outputs) g.done_is))

pub check_facts : Facts check_row
check_facts = files_facts check_form DecidesCheck (λ outputs. outputs) (λ files words.
    then_concludes (InputModule ByPrecedence files words 1) _ (module_settles ByPrecedence files words 1) (λ mo given.
    then_concludes (InputMarch files words 2) _ (march_settles files words 2) (λ march _.
    then_concludes (InputMemory files words 3) _ (memory_settles files words 3) (λ d _.
    then_concludes (FitsLength march d) _ (length_settles march d) (λ _ _.
    then_concludes (HasPorts d mo) _ (ports_settles d mo) (λ _ _.
    leaves mo march d (input_can_run ByPrecedence files words 1 mo given)))))))
