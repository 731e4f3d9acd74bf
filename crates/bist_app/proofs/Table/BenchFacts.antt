-- What is known of `bench`: a run against the first box has one answer, where the box tells its chip or its script.
use Rattle.bist_app.proofs.Common.{ℕ, List, None, Ok, Option, Some, [], ap, ap₂, arith, inl, inr, is_some, refl, slice_get, subst, sym, ◌+◌, ◌<◌, ◌∙◌, ◌∷◌, ◌≡◌, ◌≢◌, IsFirstRead, done_at, script_word, Seen, Boxes, FirstTells, FitsLength, FitsRoom, HasBox, LeavesFirst, Concludes, leaves_conclude, narrows, none_conclude, Done, found_status, Answer, answer_of, OrNoMemory, march_settles, memory_settles, InputMarch, InputMemory, MarchElement, Description, Tells, TellsChip, TellsNothing, TellsScript, IsFirstWrong, run_word, Planted, port_ops}
use Rattle.bist_app.proofs.Facts.{Facts, before_conclude, with_left}
use Rattle.bist_app.proofs.SharedFacts.{box_settles, length_settles, room_settles}
use Rattle.bist_app.specs.Bench.{IsBenched, IsSeen, IsSoundBenched, LeavesBench, bench_line, bench_row, benched_chip}
use Rattle.std.proofs.lemmas.Bool.{cases_lt}
use Rattle.word_march.specs.PortRule.{cycle_of}
use Rattle.word_march.specs.declared.operations.PortOp.{PortOp}

module _ (march : List MarchElement) (d : Description) (words : ℕ → ℕ) where
  never_before : (j k : ℕ) → j < k → IsFirstWrong march d words j → IsFirstWrong march d words k → ⊥
  never_before j k h f g = f.wrong.differs (g.right_before j h f.wrong.command f.wrong.is_command f.wrong.is_read)

  one_first : (j k : ℕ) → IsFirstWrong march d words j → IsFirstWrong march d words k → j ≡ k
  one_first j k f g = elim (cases_lt j k) [
    | inl h ↦ absurd (never_before j k h f g)
    | inr h ↦ elim (cases_lt k j) [ inl l ↦ absurd (never_before k j l g f) | inr l ↦ omega arith ]
  ]

  same_command : (j : ℕ) (c x : PortOp) → slice_get (port_ops march d) j ≡ Some c → slice_get (port_ops march d) j ≡ Some x → c ≡ x
  same_command j c x e f = let z : Some c ≡ Some x = sym e ∙ f in cc

  pub first_one : (s t : Option Seen) → IsFirstRead march d words s → IsFirstRead march d words t → s ≡ t
  first_one None None f g = refl
  first_one None (Some y) f g = let w = g.2.wrong in absurd (w.differs (f g.0 w.command w.is_command w.is_read))
  first_one (Some x) None f g = let w = f.2.wrong in absurd (w.differs (g f.0 w.command w.is_command w.is_read))
  first_one (Some x) (Some y) f g =
      let at = one_first f.0 g.0 f.2 g.2 in
      let command = same_command f.0 f.1 g.1 f.3 (subst (λ (i : ℕ). slice_get (port_ops march d) i ≡ Some g.1) (sym at) g.3) in
      let same : x ≡ y =
      f.4 ∙ ap₂ (λ (j : ℕ) (c : PortOp). record { cycle = cycle_of march d j + d.latency; expected = c.word; returned = words j }) at command ∙ sym g.4 in
      ap Some same

pub one_seen : (march : List MarchElement) (d : Description) (planted : Option Planted) (tells : Tells) (s t : Option Seen) → tells ≢ TellsNothing
    → IsSeen march d planted tells s → IsSeen march d planted tells t → s ≡ t
one_seen march d planted (TellsChip c) s t n f g = first_one march d (run_word march d (benched_chip d planted)) s t f g
one_seen march d planted (TellsScript x) s t n f g = first_one march d (script_word march d x) s t f g
one_seen march d planted TellsNothing s t n f g = absurd (n refl)

answer_is : (march : List MarchElement) (d : Description) (done : Done) (s : Option Seen) → done.found ≡ is_some s
    → done.line ≡ bench_line d.bits (is_some s) (Some (done_at march d)) s
    → answer_of (Ok done) ≡ record { status = found_status (is_some s); line = bench_line d.bits (is_some s) (Some (done_at march d)) s }
answer_is march d done s f l = ap₂ (λ b (x : List ℕ). record { status = found_status b; line = x }) f l

pub benched_one : (march : List MarchElement) (d : Description) (planted : Option Planted) (tells : Tells) (x y : Done) → tells ≢ TellsNothing
    → IsBenched march d planted tells x → IsBenched march d planted tells y → answer_of (Ok x) ≡ answer_of (Ok y)
benched_one march d planted tells x y n f g =
    let same = one_seen march d planted tells f.seen g.seen n f.is_seen g.is_seen in
    let answer : Option Seen → Answer = λ o. record { status = found_status (is_some o); line = bench_line d.bits (is_some o) (Some (done_at march d)) o } in
    answer_is march d x f.seen f.found f.line ∙ ap answer same ∙ sym (answer_is march d y g.seen g.found g.line)

leaves : {Says Told : Type 0} (march : List MarchElement) (d : Description) (boxes : Boxes) → Concludes Says Told (FirstTells boxes) (λ outputs. outputs) (LeavesBench march d boxes)
unfolding LeavesBench
leaves march d [] = none_conclude (LeavesBench march d []) (λ r h. h)
leaves march d (box ∷ boxes) =
    narrows (OrNoMemory (IsSoundBenched march d box.tells)) (LeavesBench march d (box ∷ boxes)) (λ r h. h)
    (leaves_conclude (IsSoundBenched march d box.tells) (λ told tells x y f g. benched_one march d None box.tells x y tells f.benched g.benched) (λ told x y f g. f.benched.outputs ∙ sym g.benched.outputs))

pub bench_facts : Facts bench_row
bench_facts = record {
  concludes = λ files boxes words.
      before_conclude boxes (InputMarch files words 1) _ (march_settles files words 1) (λ march _.
      before_conclude boxes (InputMemory files words 2) _ (memory_settles files words 2) (λ d _.
      before_conclude boxes (FitsLength march d) _ (length_settles march d) (λ _ _.
      before_conclude boxes (HasBox boxes) _ (box_settles boxes) (λ _ _.
      before_conclude boxes (FitsRoom d boxes) _ (room_settles d boxes) (λ _ _.
      with_left (LeavesBench march d boxes) (LeavesFirst boxes) (leaves march d boxes))))));
  said = λ files boxes left words r h. inr tt;
}
