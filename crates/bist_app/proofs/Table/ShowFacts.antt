-- What is known of `show`.
use Rattle.bist_app.proofs.Common.{List, Ok, Some, ap, sym, ℕ, ◌∙◌, ◌≡◌, Option, Files, Words, word, SaysOwn, Concludes, IsTold, leaves_conclude, own_said, own_settles, then_concludes, Done, answer_of, InputMarch, InputMemory, InputList, march_settles, memory_settles, list_settles, chip_settles, Refusal, where_settles, ModuleTree, InputModule, module_settles, ByPrecedence, true}
use Rattle.bist_inputs.specs.Chips.{InputChip}
use Rattle.made_inputs.specs.MadeMarch.{line_of}
use Rattle.memory_desc.specs.Printed.{printed}
use Rattle.verilog_tree.specs.Fits.{fits}
use Rattle.verilog_tree.specs.declared.fault.ReadFault.{ReadFault}
use Rattle.verilog_emit.specs.Printed.{printed as printed_module}
use Rattle.bist_endings.specs.declared.ending.VerilogRefusal.{VerilogRefusal}
use Rattle.bist_app.proofs.Facts.{Facts, with_left}
use Rattle.bist_app.specs.declared.show_command.InputKind.{InputKind}
use Rattle.bist_app.specs.Show.{DecidesShow, FitsText, IsShowShape, LeavesShown, ShowsKind, ShowsModule, chip_text, kind_named, list_text, show_row, shown}

kind_one : (words : Words) (a b : InputKind) → IsShowShape words a → IsShowShape words b → a ≡ b
kind_one words a b h i = some_one (kind_named (word words 1)) a b h i
  where
    some_one : (o : Option InputKind) (x y : InputKind) → o ≡ Some x → o ≡ Some y → x ≡ y
    some_one o x y h i = cc

-- a text is said in one way
said : {Says Told : Type 0} (text : List ℕ) → Concludes Says Told (Unit {0}) (λ outputs. outputs) (LeavesShown text)
unfolding LeavesShown
said text = leaves_conclude (λ done. done ≡ shown text) (λ told tells d e f g. ap (λ (done : Done). answer_of (Ok done)) (f ∙ sym g)) (λ told d e f g. ap (λ (done : Done). done.outputs) (f ∙ sym g))

module_concludes : {Says Told : Type 0} (mo : ModuleTree) → Concludes Says Told (Unit {0}) (λ outputs. outputs) (ShowsModule mo)
module_concludes mo = then_concludes (FitsText mo) _ (where_settles (fits mo ≡ true) (Refusal.Verilog (VerilogRefusal.Read (ReadFault.TooDeep 0))) (λ is. cc))
    (λ _ _. said (printed_module mo))

kind_concludes : {Says : Type 0} (files : Option Files) (words : Words) (kind : InputKind) → Concludes Says (IsTold files) (Unit {0}) (λ outputs. outputs) (ShowsKind files words kind)
kind_concludes files words InputKind.March = then_concludes (InputMarch files words 2) _ (march_settles files words 2) (λ march _. said (line_of march))
kind_concludes files words InputKind.Memory = then_concludes (InputMemory files words 2) _ (memory_settles files words 2) (λ d _. said (printed d))
kind_concludes files words InputKind.Faults = then_concludes (InputList files words 2) _ (list_settles files words 2) (λ items _. said (list_text items))
kind_concludes files words InputKind.Chip = then_concludes (InputChip files words 2) _ (chip_settles files words 2) (λ chip _. said (chip_text chip))
kind_concludes files words InputKind.Module = then_concludes (InputModule ByPrecedence files words 2) _ (module_settles ByPrecedence files words 2) (λ mo _. module_concludes mo)

pub show_facts : Facts show_row
show_facts = record {
  concludes = λ files boxes words. with_left (DecidesShow files words) (λ left _. left ≡ boxes)
      (then_concludes (SaysOwn (IsShowShape words)) (ShowsKind files words) (own_settles (IsShowShape words) (kind_one words)) (λ kind _. kind_concludes files words kind));
  said = λ files boxes left words r h. own_said (IsShowShape words) (ShowsKind files words) r h.0;
}
