-- What is known of `benchfile`: a run of a file's module against the first box has one answer, where the box tells its chip or its script.
use Rattle.bist_app.proofs.Common.{ℕ, Bool, List, None, Ok, Option, [], ap, ap₂, inr, subst, sym, ◌+◌, ◌∙◌, ◌∷◌, ◌≡◌, ◌≢◌, IsFirstSeen, Seen, Boxes, FirstTells, FitsLength, FitsRoom, HasBox, HasPorts, LeavesFirst, Concludes, leaves_conclude, narrows, none_conclude, Done, Answer, answer_of, OrNoMemory, march_settles, memory_settles, CanRun, InputModule, InputMarch, InputMemory, MarchElement, Description, ModuleTree, Tells, TellsChip, TellsNothing, TellsScript, input_can_run, module_settles, wrong_port, Parenthesised, span}
use Rattle.bench.proofs.OneRun.{same_cycles}
use Rattle.bench.specs.Joint.{first_done, ports_in, word_in}
use Rattle.bist_app.proofs.Table.BenchFacts.{first_one}
use Rattle.bist_app.proofs.BenchedFile.{are_ports}
use Rattle.bist_app.proofs.Facts.{Facts, before_conclude, with_left}
use Rattle.bist_app.proofs.SharedFacts.{box_settles, length_settles, none_wrong, ports_settles, room_settles}
use Rattle.bist_app.specs.Bench.{benched_done, ready}
use Rattle.bist_app.specs.BenchFile.{IsFileRun, LeavesBenchFile, bench_file_row, zero_registers}
use Rattle.verilog_tree.specs.Meaning.{Env}
use Rattle.word_device.specs.Joint.{returned_word}

-- a box that tells does so when it is ready
ready_tells : (d : Description) (tells : Tells) → tells ≢ TellsNothing → ready d None tells ≢ TellsNothing
ready_tells d (TellsChip c) n = λ e. cc
ready_tells d (TellsScript s) n = λ e. cc
ready_tells d TellsNothing n = n

run_one : (mo : ModuleTree) (march : List MarchElement) (d : Description) (tells : Tells) (x y : Done) → CanRun mo → wrong_port d mo.ports ≡ None → tells ≢ TellsNothing
    → IsFileRun mo march d tells x → IsFileRun mo march d tells y → answer_of (Ok x) ≡ answer_of (Ok y)
run_one mo march d tells x y can ports n f g =
    let cycles =
    same_cycles mo d can.wires can.sizes can.legal can.in_order (are_ports d mo.ports ports) march (zero_registers mo) f.now g.now tells f.after g.after f.failed g.failed
    f.done_in g.done_in f.seen g.seen n f.runs g.runs in
    let failed : f.failed ≡ g.failed =
    f.runs.shows.fail ∙ ap (λ (es : List Env). (ports_in es (span march d + 1 + d.latency)).fail) cycles ∙ sym g.runs.shows.fail in
    let done_in : f.done_in ≡ g.done_in = f.runs.shows.done ∙ ap (λ (es : List Env). first_done 0 es) cycles ∙ sym g.runs.shows.done in
    let seen : f.seen ≡ g.seen =
    first_one march d (returned_word march d (word_in g.runs.cycles)) f.seen g.seen
    (subst (λ (es : List Env). IsFirstSeen march d (word_in es) f.seen) cycles f.runs.shows.first) g.runs.shows.first in
    let answer : Bool → Option ℕ → Option Seen → Answer = λ b o s. answer_of (Ok (benched_done d.bits b o s)) in
    ap (λ (z : Done). answer_of (Ok z)) f.done_is ∙ ap (λ (b : Bool). answer b f.done_in f.seen) failed
    ∙ ap₂ (λ (o : Option ℕ) (s : Option Seen). answer g.failed o s) done_in seen ∙ sym (ap (λ (z : Done). answer_of (Ok z)) g.done_is)

leaves : {Says Told : Type 0} (mo : ModuleTree) (march : List MarchElement) (d : Description) (boxes : Boxes) → CanRun mo → wrong_port d mo.ports ≡ None
    → Concludes Says Told (FirstTells boxes) (λ outputs. outputs) (LeavesBenchFile mo march d boxes)
unfolding LeavesBenchFile
leaves mo march d [] can ports = none_conclude (LeavesBenchFile mo march d []) (λ r h. h)
leaves mo march d (box ∷ boxes) can ports =
    narrows (OrNoMemory (IsFileRun mo march d (ready d None box.tells))) (LeavesBenchFile mo march d (box ∷ boxes)) (λ r h. h)
    (leaves_conclude (IsFileRun mo march d (ready d None box.tells)) (λ told tells x y f g. run_one mo march d (ready d None box.tells) x y can ports (ready_tells d box.tells tells) f g) (λ told x y f g. ap (λ (z : Done). z.outputs) f.done_is ∙ sym (ap (λ (z : Done). z.outputs) g.done_is)))

pub bench_file_facts : Facts bench_file_row
bench_file_facts = record {
  concludes = λ files boxes words.
      before_conclude boxes (InputModule Parenthesised files words 1) _ (module_settles Parenthesised files words 1) (λ mo given.
      before_conclude boxes (InputMarch files words 2) _ (march_settles files words 2) (λ march _.
      before_conclude boxes (InputMemory files words 3) _ (memory_settles files words 3) (λ d _.
      before_conclude boxes (FitsLength march d) _ (length_settles march d) (λ _ _.
      before_conclude boxes (HasPorts d mo) _ (ports_settles d mo) (λ u ports.
      before_conclude boxes (HasBox boxes) _ (box_settles boxes) (λ _ _.
      before_conclude boxes (FitsRoom d boxes) _ (room_settles d boxes) (λ _ _.
      with_left (LeavesBenchFile mo march d boxes) (LeavesFirst boxes)
      (leaves mo march d boxes (input_can_run Parenthesised files words 1 mo given) (none_wrong d mo u ports)))))))));
  said = λ files boxes left words r h. inr tt;
}
