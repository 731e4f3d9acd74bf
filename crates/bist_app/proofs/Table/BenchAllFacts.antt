-- What is known of `benchall`: a run of all boxes has one answer, where each tells its chip or its script.
use Rattle.bist_app.proofs.Common.{ℕ, Err, List, None, Ok, Option, Result, [], ap, ap₂, arith, inl, inr, length, refl, sym, ◌∙◌, ◌∷◌, ◌≡◌, Seen, Boxes, FitsLength, HasBox, Concludes, NeverUsage, leaves_conclude, outcome_settles, Done, HasOneOutcome, answer_of, Refusal, march_settles, memory_settles, InputMarch, InputMemory, MarchElement, Description}
use Rattle.bist_app.proofs.Table.BenchFacts.{one_seen}
use Rattle.bist_app.proofs.Facts.{Facts, before_conclude, with_left}
use Rattle.bist_app.proofs.SharedFacts.{box_settles, length_settles}
use Rattle.bist_app.proofs.SmallRooms.{small_room}
use Rattle.bist_app.specs.BenchAll.{AllTell, AreSeen, FitsRooms, HaveRoom, IsAllBenched, LeavesAll, LeavesNone, all_done, bench_all_row, failing_of}
use Rattle.bist_app.specs.inner.BenchedBoxes.{SmallRoom}
use Rattle.bist_endings.specs.declared.ending.DeviceRefusal.{DeviceRefusal}

room_or_small : (words : ℕ) (boxes : Boxes) (room : ℕ) → HaveRoom words boxes → SmallRoom words boxes room → ⊥
room_or_small words [] room h g = g
room_or_small words (box ∷ boxes) room h (inl g) = omega (arith, h.0, g.0)
room_or_small words (box ∷ boxes) room h (inr g) = room_or_small words boxes room h.1 g.1

small_one : (words : ℕ) (boxes : Boxes) (m n : ℕ) → SmallRoom words boxes m → SmallRoom words boxes n → m ≡ n
small_one words [] m n f g = absurd f
small_one words (box ∷ boxes) m n (inl f) (inl g) = f.1 ∙ sym g.1
small_one words (box ∷ boxes) m n (inl f) (inr g) = absurd (omega (arith, f.0, g.0))
small_one words (box ∷ boxes) m n (inr f) (inl g) = absurd (omega (arith, f.0, g.0))
small_one words (box ∷ boxes) m n (inr f) (inr g) = small_one words boxes m n f.1 g.1

same_room : (m k a r s : ℕ) → m ≡ a → k ≡ a → r ≡ s
    → (let o : Result (Unit {0}) Refusal = Err (Refusal.Device (DeviceRefusal.TooSmall m r)) in o) ≡ Err (Refusal.Device (DeviceRefusal.TooSmall k s))
same_room m k a r s e f g = ap₂ (λ x y. Err (Refusal.Device (DeviceRefusal.TooSmall x y))) (e ∙ sym f) g

rooms_one : (d : Description) (boxes : Boxes) → HasOneOutcome (FitsRooms d boxes)
unfolding FitsRooms
rooms_one d boxes (Ok u) (Ok v) f g rs ss = refl
rooms_one d boxes (Ok u) (Err (Refusal.Device (DeviceRefusal.TooSmall m r))) f g rs ss = absurd (room_or_small d.words boxes r f (small_room d.words boxes r g.1))
rooms_one d boxes (Ok u) (Err other) f g rs ss = absurd g
rooms_one d boxes (Err (Refusal.Device (DeviceRefusal.TooSmall m r))) (Ok v) f g rs ss = absurd (room_or_small d.words boxes r g (small_room d.words boxes r f.1))
rooms_one d boxes (Err (Refusal.Device (DeviceRefusal.TooSmall m r))) (Err (Refusal.Device (DeviceRefusal.TooSmall k s))) f g rs ss =
    same_room m k d.words r s f.0 g.0 (small_one d.words boxes r s (small_room d.words boxes r f.1) (small_room d.words boxes s g.1))
rooms_one d boxes (Err (Refusal.Device (DeviceRefusal.TooSmall m r))) (Err other) f g rs ss = absurd g
rooms_one d boxes (Err other) s f g rs ss = absurd f

rooms_never : (d : Description) (boxes : Boxes) → NeverUsage (FitsRooms d boxes)
unfolding FitsRooms
rooms_never d boxes h = h

-- ---- the runs

all_seen_one : (march : List MarchElement) (d : Description) (boxes : Boxes) (s t : List (Option Seen)) → AllTell boxes → AreSeen march d boxes s → AreSeen march d boxes t → s ≡ t
all_seen_one march d [] [] [] tells f g = refl
all_seen_one march d [] [] (y ∷ t) tells f g = absurd g
all_seen_one march d [] (x ∷ s) t tells f g = absurd f
all_seen_one march d (box ∷ boxes) [] t tells f g = absurd f
all_seen_one march d (box ∷ boxes) (x ∷ s) [] tells f g = absurd g
all_seen_one march d (box ∷ boxes) (x ∷ s) (y ∷ t) tells f g =
    ap₂ (λ z (zs : List (Option Seen)). z ∷ zs) (one_seen march d None box.tells x y tells.0 f.0.is_seen g.0.is_seen) (all_seen_one march d boxes s t tells.1 f.1 g.1)

leaves : {Says Told : Type 0} (march : List MarchElement) (d : Description) (boxes : Boxes) → Concludes Says Told (AllTell boxes) (λ outputs. outputs) (LeavesAll march d boxes)
unfolding LeavesAll
leaves march d boxes =
    leaves_conclude (IsAllBenched march d boxes) (λ told tells x y f g.
    ap (λ (done : Done). answer_of (Ok done))
    (f.done_is ∙ ap (λ (seen : List (Option Seen)). all_done (length boxes) (failing_of seen)) (all_seen_one march d boxes f.seen g.seen tells f.are_seen g.are_seen) ∙ sym g.done_is))
    (λ told x y f g. ap (λ (z : Done). z.outputs) f.done_is ∙ sym (ap (λ (z : Done). z.outputs) g.done_is))

pub bench_all_facts : Facts bench_all_row
bench_all_facts = record {
  concludes = λ files boxes words.
      before_conclude boxes (InputMarch files words 1) _ (march_settles files words 1) (λ march _.
      before_conclude boxes (InputMemory files words 2) _ (memory_settles files words 2) (λ d _.
      before_conclude boxes (FitsLength march d) _ (length_settles march d) (λ _ _.
      before_conclude boxes (HasBox boxes) _ (box_settles boxes) (λ _ _.
      before_conclude boxes (FitsRooms d boxes) _ (outcome_settles (FitsRooms d boxes) (rooms_never d boxes) (rooms_one d boxes)) (λ _ _.
      with_left (LeavesAll march d boxes) (LeavesNone boxes) (leaves march d boxes))))));
  said = λ files boxes left words r h. inr tt;
}
