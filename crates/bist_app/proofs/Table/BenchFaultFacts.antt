-- What is known of `benchfault`.
use Rattle.bist_app.proofs.Common.{List, Some, [], is_some, sym, ◌∙◌, ◌∷◌, ◌≡◌, Boxes, FirstTells, FitsAggressor, FitsLength, FitsRoom, HasBox, LeavesFirst, Concludes, leaves_conclude, narrows, none_conclude, own_settles, where_settles, OrNoMemory, SaysOwn, Words, word, Refusal, march_settles, memory_settles, prim_settles, GivesPrim, InputMarch, InputMemory, MarchElement, Description, Planted}
use Rattle.bist_app.proofs.Table.BenchFacts.{benched_one}
use Rattle.bist_app.proofs.Facts.{Facts, before_conclude, before_said, with_left}
use Rattle.bist_app.proofs.PlaceWords.{aggressor_place_one, place_one}
use Rattle.bist_app.proofs.SharedFacts.{aggressor_settles, box_settles, length_settles, room_settles}
use Rattle.bist_app.specs.BenchFault.{ArePlaces, FitsPlaces, IsFaultBenched, IsFaultShape, LeavesFault, RunsFault, bench_fault_row, planted_of}
use Rattle.bist_app.specs.declared.benchfault_command.FaultShape.{FaultShape}
use Rattle.bist_endings.specs.declared.ending.DeviceRefusal.{DeviceRefusal}

fault_shape_one : (words : Words) (s t : FaultShape) → IsFaultShape words s → IsFaultShape words t → s ≡ t
fault_shape_one words s t h i =
    let aggressor = aggressor_place_one (word words 4) s.aggressor t.aggressor h.aggressor i.aggressor in
    let victim = place_one (word words 5) s.victim t.victim h.victim i.victim in
    λ j. record { aggressor = aggressor j; victim = victim j }

leaves : {Says Told : Type 0} (march : List MarchElement) (d : Description) (planted : Planted) (boxes : Boxes) → Concludes Says Told (FirstTells boxes) (λ outputs. outputs) (LeavesFault march d planted boxes)
unfolding LeavesFault
leaves march d planted [] = none_conclude (LeavesFault march d planted []) (λ r h. h)
leaves march d planted (box ∷ boxes) =
    narrows (OrNoMemory (IsFaultBenched march d planted box.tells)) (LeavesFault march d planted (box ∷ boxes)) (λ r h. h)
    (leaves_conclude (IsFaultBenched march d planted box.tells) (λ told tells x y f g. benched_one march d (Some planted) box.tells x y tells f.benched g.benched) (λ told x y f g. f.benched.outputs ∙ sym g.benched.outputs))

pub bench_fault_facts : Facts bench_fault_row
bench_fault_facts = record {
  concludes = λ files boxes words.
      before_conclude boxes (SaysOwn (IsFaultShape words)) (λ shape left. RunsFault files boxes left words shape) (own_settles (IsFaultShape words) (fault_shape_one words)) (λ shape _.
      before_conclude boxes (InputMarch files words 1) _ (march_settles files words 1) (λ march _.
      before_conclude boxes (InputMemory files words 2) _ (memory_settles files words 2) (λ d _.
      before_conclude boxes (GivesPrim (word words 3)) _ (prim_settles (word words 3)) (λ prim _.
      before_conclude boxes (FitsAggressor (is_some shape.aggressor) prim) _ (aggressor_settles (is_some shape.aggressor) prim) (λ _ _.
      before_conclude boxes (FitsLength march d) _ (length_settles march d) (λ _ _.
      before_conclude boxes (HasBox boxes) _ (box_settles boxes) (λ _ _.
      before_conclude boxes (FitsPlaces d shape) _ (where_settles (ArePlaces d shape) (Refusal.Device DeviceRefusal.BadPlace) (λ is. cc)) (λ _ _.
      before_conclude boxes (FitsRoom d boxes) _ (room_settles d boxes) (λ _ _.
      with_left (LeavesFault march d (planted_of prim shape) boxes) (LeavesFirst boxes) (leaves march d (planted_of prim shape) boxes))))))))));
  said = λ files boxes left words r h. before_said boxes left (IsFaultShape words) (λ shape. RunsFault files boxes left words shape) r h;
}
