-- What is known of `make`.
use Rattle.bist_app.proofs.Common.{take, drop, ℕ, List, Ok, Some, [], ap, ap₂, arith, length, subst, sym, ◌*◌, ◌++◌, ◌+◌, ◌-◌, ◌∙◌, ◌∷◌, ◌≡◌, Concludes, leaves_conclude, own_said, own_settles, then_concludes, Done, Written, found_status, Answer, answer_of, SaysOwn, word, Item, MarchElement, all_ops, Description, detects_one, text_one, IsMixedReport, command_count}
use Rattle.backgrounds.specs.Backgrounds.{IsLogSet, IsLogarithm}
use Rattle.bist_app.proofs.Facts.{Facts, with_left}
use Rattle.report_lines.proofs.Listed.{lacks_one}
use Rattle.report.specs.Items.{DetectsItem}
use Rattle.bist_app.proofs.OwnWords.{number_one}
use Rattle.bist_app.specs.Make.{DecidesMake, IsMade, IsMadeOf, IsMakeShape, LeavesMake, made_line, make_row}
use Rattle.made_inputs.specs.MadeList.{made_items, made_text}
use Rattle.made_inputs.specs.MadeMarch.{line_of, made_march}
use Rattle.made_inputs.specs.MadeMemory.{IsMadeMemory}
use Rattle.memory_desc.proofs.Determined.{log_set_one, width_one}
use Rattle.memory_desc.specs.Printed.{printed}
use Rattle.scrambler.specs.Scrambling.{identity}
use Rattle.word_march.proofs.Count.{command_count_is}

log_one : (bits m n : ℕ) → IsLogarithm bits m → IsLogarithm bits n → m ≡ n
log_one bits m n p q = let low = p.least n q.enough in let high = q.least m p.enough in omega (arith, low, high)

sets_one : (bits : ℕ) (xs ys : List ℕ) → IsLogSet bits xs → IsLogSet bits ys → length xs ≡ length ys
sets_one bits xs ys p q =
    let same = log_one bits (length xs - 1) (length ys - 1) p.count q.count in
    let some = p.some in
    let more = q.some in
    omega (arith, same, some, more)

same_count : (march : List MarchElement) (number : ℕ) (a b : Description) → IsMadeMemory number a → IsMadeMemory number b
    → command_count march a ≡ command_count march b
same_count march number a b p q =
    let words : a.words ≡ b.words = p.words ∙ sym q.words in
    let sets = sets_one 64 a.backgrounds b.backgrounds p.backgrounds q.backgrounds in
    command_count_is march a ∙ ap₂ (λ (n w : ℕ). n * (length (all_ops march) * w)) sets words ∙ sym (command_count_is march b)

summary_one : (march : List MarchElement) (a b : Description) (items : List Item) (listed : List ℕ) (d e : Done) → command_count march a ≡ command_count march b
    → IsMadeOf march a items listed d → IsMadeOf march b items listed e
    → (let x : Answer = record { status = found_status d.found; line = d.line } in x) ≡ record { status = found_status e.found; line = e.line }
summary_one march a b items listed d e count p q =
    let status = ap found_status (lacks_one (DetectsItem march) items d.found e.found p.reports.found q.reports.found) in
    let covered = detects_one march items p.covered q.covered p.detects q.detects in
    let lines : d.line ≡ e.line =
    p.line ∙ ap₂ (λ (n k : ℕ). made_line (length march) (length (all_ops march)) n k (length items)) count covered ∙ sym q.line in
    λ j. record { status = status j; line = lines j }

-- a number has one memory
memory_one : (number : ℕ) (a b : Description) → IsMadeMemory number a → IsMadeMemory number b → a ≡ b
memory_one number a b p q =
    let name = p.name ∙ sym q.name in
    let words = p.words ∙ sym q.words in
    let bits = p.bits ∙ sym q.bits in
    let latency = p.latency ∙ sym q.latency in
    let polarity = p.polarity ∙ sym q.polarity in
    let pause = p.pause ∙ sym q.pause in
    let width = width_one (number + 1) a.scramble.width b.scramble.width p.width q.width in
    let scramble : a.scramble ≡ b.scramble = p.unscrambled ∙ ap identity width ∙ sym q.unscrambled in
    let backgrounds = log_set_one 64 a.backgrounds b.backgrounds p.backgrounds q.backgrounds in
    λ j. record {
      name = name j;
      words = words j;
      bits = bits j;
      latency = latency j;
      polarity = polarity j;
      pause = pause j;
      scramble = scramble j;
      backgrounds = backgrounds j;
    }

-- the files but the module's, of a memory's text and a report
abbrev made_settled : List ℕ → List ℕ → List ℕ → List ℕ → List Written
made_settled march memory listed bytes =
    (record { position = 2; bytes = march })
    ∷ (record { position = 3; bytes = memory })
    ∷ (record { position = 4; bytes = listed })
    ∷ (record { position = 6; bytes = bytes })
    ∷ []

files_one : (number : ℕ) (d e : Done) → IsMade number d → IsMade number e → take 3 d.outputs ++ drop 4 d.outputs ≡ take 3 e.outputs ++ drop 4 e.outputs
files_one number d e (a, p, f) (b, q, g) =
    let same : a ≡ b = memory_one number a b p q in
    let report = text_one (made_march number) (Some b) made_items f.bytes g.bytes
    (subst (λ (m : Description). IsMixedReport f.bytes (made_march number) (Some m) made_items) same f.reports.report) g.reports.report in
    ap (λ (outputs : List Written). take 3 outputs ++ drop 4 outputs) f.outputs
    ∙ ap (λ (m : Description). made_settled (line_of (made_march number)) (printed m) made_text f.bytes) same
    ∙ ap (λ x. made_settled (line_of (made_march number)) (printed b) made_text x) report
    ∙ sym (ap (λ (outputs : List Written). take 3 outputs ++ drop 4 outputs) g.outputs)

line_one : (number : ℕ) (d e : Done) → IsMade number d → IsMade number e → answer_of (Ok d) ≡ answer_of (Ok e)
line_one number d e (a, p, f) (b, q, g) = summary_one (made_march number) a b made_items made_text d e (same_count (made_march number) number a b p q) f g

leaves : {Says Told : Type 0} (number : ℕ) → Concludes Says Told (Unit {0}) (λ outputs. take 3 outputs ++ drop 4 outputs) (LeavesMake number)
unfolding LeavesMake
leaves number = leaves_conclude (IsMade number) (λ told tells d e f g. line_one number d e f g) (λ told. files_one number)

pub make_facts : Facts make_row
make_facts = record {
  concludes = λ files boxes words. with_left (DecidesMake words) (λ left _. left ≡ boxes)
      (then_concludes (SaysOwn (IsMakeShape words)) LeavesMake (own_settles (IsMakeShape words) (λ m n h i. number_one (word words 1) m n h.says i.says)) (λ number _. leaves number));
  said = λ files boxes left words r h. own_said (IsMakeShape words) LeavesMake r h.0;
}
