-- What is known of `sim`.
use Rattle.bist_app.proofs.Common.{ℕ, Bool, IsTrue, List, None, Ok, Option, Some, ap, is_some, length, refl, sym, ◌∙◌, ◌≡◌, FitsAggressor, Concludes, leaves_conclude, own_said, own_settles, then_concludes, where_settles, Done, answer_of, SaysOwn, Words, word, Refusal, march_settles, prim_settles, GivesPrim, InputMarch, Primitive, MarchElement, Direction, is_direction, visits}
use Rattle.array_sim.proofs.Differing.{one_first}
use Rattle.array_sim.specs.Differing.{after_step, is_wrong_at}
use Rattle.bist_app.proofs.Facts.{Facts, with_left}
use Rattle.bist_app.proofs.OwnWords.{no_number, number_one}
use Rattle.bist_app.proofs.SharedFacts.{aggressor_settles}
use Rattle.bist_app.specs.Sim.{DecidesSim, FirstDiffers, FitsDirections, IsAggressorWord, IsSimShape, IsSimulated, LeavesSim, RunsSim, content_of, directions_of_letters, places_of, sim_done, sim_row}
use Rattle.bist_app.specs.declared.sim.SimShape.{SimShape}
use Rattle.bist_endings.specs.declared.ending.Misfit.{Misfit}
use Rattle.fault_core.specs.Cells.{close_of}
use Rattle.fault_core.specs.declared.cells.Places.{Places}
use Rattle.march_core.specs.declared.visit.Miss.{Miss}

aggressor_one : (text : List ℕ) (size size' victim victim' : ℕ) (c d : Option ℕ) → IsAggressorWord text size victim c → IsAggressorWord text size' victim' d → c ≡ d
aggressor_one text size size' victim victim' None None h i = refl
aggressor_one text size size' victim victim' None (Some d) h i = absurd (no_number text d h i.0)
aggressor_one text size size' victim victim' (Some c) None h i = absurd (no_number text c i h.0)
aggressor_one text size size' victim victim' (Some c) (Some d) h i = ap Some (number_one text c d h.0 i.0)

shape_one : (words : Words) (s t : SimShape) → IsSimShape words s → IsSimShape words t → s ≡ t
shape_one words s t h i =
    let size = number_one (word words 3) s.size t.size h.size i.size in
    let victim = number_one (word words 6) s.victim t.victim h.victim i.victim in
    let aggressor = aggressor_one (word words 5) s.size t.size s.victim t.victim s.aggressor t.aggressor h.aggressor i.aggressor in
    λ j. record { size = size j; aggressor = aggressor j; victim = victim j }

one_read : (march : List MarchElement) (ds : List Direction) (prim : Primitive) (at : Places) (content : List Bool) (m k : Option Miss)
    → FirstDiffers march ds prim at content m → FirstDiffers march ds prim at content k → m ≡ k
one_read march ds prim at content None None f g = refl
one_read march ds prim at content None (Some k) f g = absurd (f (g.visit, g.differs))
one_read march ds prim at content (Some m) None f g = absurd (g (f.visit, f.differs))
one_read march ds prim at content (Some m) (Some k) f g =
    ap Some (one_first (after_step prim at) (is_wrong_at prim at) (close_of prim at content) (visits march ds (length content)) m k f g)

line_one : (march : List MarchElement) (prim : Primitive) (at : Places) (digits letters : List ℕ) (d e : Done) → IsSimulated march prim at digits letters d
    → IsSimulated march prim at digits letters e → d ≡ e
line_one march prim at digits letters d e (m, f, is) (k, g, js) =
    is ∙ ap sim_done (one_read march (directions_of_letters letters) prim at (content_of digits) m k f g) ∙ sym js

leaves : {Says Told : Type 0} (march : List MarchElement) (prim : Primitive) (at : Places) (digits letters : List ℕ)
    → Concludes Says Told (Unit {0}) (λ outputs. outputs) (LeavesSim march prim at digits letters)
unfolding LeavesSim
leaves march prim at digits letters =
    leaves_conclude (IsSimulated march prim at digits letters) (λ told tells d e f g. ap (λ (done : Done). answer_of (Ok done)) (line_one march prim at digits letters d e f g))
    (λ told d e f g. ap (λ (done : Done). done.outputs) (line_one march prim at digits letters d e f g))

pub sim_facts : Facts sim_row
sim_facts = record {
  concludes = λ files boxes words. with_left (DecidesSim files words) (λ left _. left ≡ boxes)
      (then_concludes (SaysOwn (IsSimShape words)) (RunsSim files words) (own_settles (IsSimShape words) (shape_one words)) (λ shape _.
      then_concludes (InputMarch files words 1) _ (march_settles files words 1) (λ march _.
      then_concludes (GivesPrim (word words 2)) _ (prim_settles (word words 2)) (λ prim _.
      then_concludes (FitsAggressor (is_some shape.aggressor) prim) _ (aggressor_settles (is_some shape.aggressor) prim) (λ _ _.
      then_concludes (FitsDirections (word words 7) march) _
      (where_settles (IsTrue (is_direction march (directions_of_letters (word words 7)))) (Refusal.Misfit Misfit.Directions) (λ is. cc)) (λ _ _.
      leaves march prim (places_of shape) (word words 4) (word words 7)))))));
  said = λ files boxes left words r h. own_said (IsSimShape words) (RunsSim files words) r h.0;
}
