-- What the answer of the top call comes to for `check`.
use Rattle.bist_app.proofs.Common.{◌≡◌, ◌∙◌, sym, subst, ap, arith, ℕ, List, [], Option, Some, None, Ok, Err, Files, HostState, Says, MarchElement, Description, IsMemory, ModuleTree, Words, word, Done, found_status, WritesInOrder, CanRun, Boxes, HasPorts, HasForm, command_named, Runs, Command, ByPrecedence, wrong_port, PortAnswer, Spelled, input_spells, input_can_run}
use Rattle.march_syntax.specs.Answers.{SpellsMarch}
use Rattle.memory_desc.specs.Described.{SpellsMemory}
use Rattle.verilog_tree.specs.Names.{number}
use Rattle.verilog_tree.proofs.Settling.{one_settles}
use Rattle.verilog_cycle.specs.Design.{places}
use Rattle.verilog_cycle.proofs.Settled.{places_fall}
use Rattle.port_check.specs.Answers.{Told, is_amiss}
use Rattle.port_check.specs.Compared.{Issues}
use Rattle.port_check.proofs.Checking.{told_of}
use Rattle.bist_app.specs.Check.{IsChecked, LeavesCheck, DecidesCheck, check_form}
use Rattle.bist_app.specs.Conformance.{IsConformance, LeavesConformance}
use Rattle.bist_app.specs.Headline.{Only, InputHas}
use Rattle.bist_app.proofs.Headline.{march_read, memory_read}
use Rattle.bist_app.proofs.Complete.{if_told}
use Rattle.bist_app.proofs.Succeeding.{Succeeds, succeeds, not_refused}

-- the module, the march and the memory that were read, and what is left of them
record Inputs (files : Files) (words : Words) (done : Done) : Type 0 where
  tree : ModuleTree
  march : List MarchElement
  memory : Description
  is_memory : IsMemory memory
  module_text : Spelled ByPrecedence files (word words 1) tree
  march_text : InputHas files (word words 2) (λ bytes. Only (SpellsMarch bytes) march)
  memory_text : InputHas files (word words 3) (λ bytes. Only (SpellsMemory bytes) memory)
  can_run : CanRun tree
  ports : wrong_port memory tree.ports ≡ None
  checked : IsChecked tree march memory done

inputs : (files : Files) (words : Words) (done : Done) → DecidesCheck (Some files) words (Ok done) → Inputs files words done
unfolding LeavesCheck HasPorts
inputs files words done (Err e, first, same) = absurd (not_refused same)
inputs files words done (Ok tree, first, (Err e, second, same)) = absurd (not_refused same)
inputs files words done (Ok tree, first, (Ok march, second, (Err e, third, same))) = absurd (not_refused same)
inputs files words done (Ok tree, first, (Ok march, second, (Ok memory, third, (Err e, fits, same)))) = absurd (not_refused same)
inputs files words done (Ok tree, first, (Ok march, second, (Ok memory, third, (Ok _, fits, (Err e, ports, same))))) = absurd (not_refused same)
inputs files words done (Ok tree, first, (Ok march, second, (Ok memory, third, (Ok _, fits, (Ok _, ports, checked))))) = record {
  tree = tree;
  march = march;
  memory = memory;
  is_memory = (memory_read files words 3 memory third).0;
  module_text = input_spells ByPrecedence files words 1 tree first;
  march_text = march_read files words 2 march second;
  memory_text = (memory_read files words 3 memory third).1;
  can_run = input_can_run ByPrecedence (Some files) words 1 tree first;
  ports = ports;
  checked = checked;
}

-- what conforms issues the commands
issues_of : (mo : ModuleTree) (march : List MarchElement) (d : Description) (a : PortAnswer) → found_status (is_amiss a) ≡ 0 → Told mo march d a → Issues mo march d
issues_of mo march d (PortAnswer.Conforms c) h told = told
issues_of mo march d (PortAnswer.Differs t p x g) h told = absurd (omega (arith, h))
issues_of mo march d (PortAnswer.Unknown t p) h told = absurd (omega (arith, h))

conforming : (words : Words) (files : Files) (said said' : Option (List ℕ)) (n : ℕ) (done : Done) → HasForm check_form words
    → Inputs files words done → n ≡ found_status done.found → Says said said' done.line → IsConformance words files said said' n
conforming words files said said' n done shape i is says =
    let c = i.checked in
    let status : n ≡ found_status (is_amiss c.answer) = is ∙ ap (λ (d : Done). found_status d.found) c.done_is in
    let told : Told i.tree i.march i.memory c.answer =
    told_of i.tree i.march i.memory i.can_run.wires c.answer i.can_run.sizes i.can_run.legal i.can_run.in_order c.is_answer in
    let text = i.module_text in
    record {
      shape = shape;
      tree = i.tree;
      march = i.march;
      memory = i.memory;
      is_memory = i.is_memory;
      module_text = (text.bytes, text.are, (text.fits, (text.spells, text.no_other)));
      march_text = i.march_text;
      memory_text = i.memory_text;
      can_run = i.can_run;
      ports = i.ports;
      settles = one_settles i.tree i.can_run.sizes i.can_run.legal (number (places i.tree i.can_run.wires))
          (places_fall i.tree i.can_run.sizes i.can_run.legal i.can_run.wires i.can_run.in_order);
      issues = λ zero. issues_of i.tree i.march i.memory c.answer (sym status ∙ zero) told;
      answer = c.answer;
      is_answer = c.is_answer;
      tells = told;
      status_is = status;
      says = subst (λ (d : Done). Says said said' d.line) c.done_is says;
    }

conformance : (words : Words) (files : Files) (old new : HostState) (n : ℕ) → Succeeds Command.Check words files old new n
    → (new.files ≡ Some files) × IsConformance words files old.said new.said n
conformance words files old new n s =
    let i = inputs files words s.done s.decides.0 in
    let none : s.done.outputs ≡ [] = ap (λ (d : Done). d.outputs) i.checked.done_is in
    (subst (λ outs. WritesInOrder words outs (Some files) new.files (Ok tt)) none s.writes, conforming words files old.said new.said n s.done s.form i s.status s.says)

pub leaves_conformance : (words : Words) (boxes left : Boxes) (old new : HostState) (n : ℕ) → Runs words boxes left old new n → LeavesConformance words old new n
leaves_conformance words boxes left old new n runs =
    if_told old.files _ (λ files told name low. conformance words files old new n (succeeds Command.Check words boxes left files old new n (ap command_named name) low told runs))
