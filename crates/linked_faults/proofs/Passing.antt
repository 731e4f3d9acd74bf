-- An array with a linked fault, seen from its three cells.
use Rattle.std.proofs.Common.{◌≡◌, ◌≢◌, ℕ, Bool, None, List, length, ap, sym, refl, ◌∙◌}
use Rattle.fault_core.specs.Cells.{cell, plain_cells}
use Rattle.march_core.specs.Operation.{is_wrong_of}
use Rattle.march_core.specs.Visits.{Visit, MarchStep, pausing, visiting}
use Rattle.array_sim.specs.Run.{act_of}
use Rattle.cell_machine.proofs.Projection.{cell-plain_cells_other}
use Rattle.pair_tracker.proofs.Few.{Sees}
use Rattle.linked_faults.specs.declared.link.Link.{Link}
use Rattle.linked_faults.specs.declared.link.LinkPlaces.{LinkPlaces}
use Rattle.linked_faults.specs.Linking.{linked_cells, linked_answer}
use Rattle.linked_faults.specs.Detection.{cells_behind, is_wrong_there}
use Rattle.linked_faults.specs.inner.Threes.{Trio, three_at, seat_index, machine_of}
use Rattle.linked_faults.proofs.Seats.{seat_at, is_seat, no_seat, seat_within}
use Rattle.linked_faults.proofs.Seen.{IsTrio, IsElsewhere, FitsThree, place_at, spots_from, elsewhere, three_bits, step_seen, answer_seen, pause_seen, length-linked, length-linked_pause, linked_leaves, pause_leaves, plain_there, plainly_answered}

module _ (link : Link) (s : LinkPlaces) (t : Trio) (n : ℕ) (is : IsTrio t n) (fits : FitsThree s) where
  abbrev at : LinkPlaces
  at = spots_from t s

  keeps : (cells : List Bool) (step : MarchStep) → length cells ≡ n → length (cells_behind link at cells step) ≡ n
  keeps cells (pausing e) size = length-linked_pause link at cells ∙ size
  keeps cells (visiting v) size = length-linked link at cells v.address (act_of v.op) ∙ size

  -- an act on another cell is plain
  not_own : (v : Visit) → seat_at t v.address ≡ None → (i : ℕ) → place_at t i ≢ v.address
  not_own v out i h = elsewhere t v.address i (no_seat t v.address out) (sym h)

  plain : (cells : List Bool) (v : Visit) → seat_at t v.address ≡ None → linked_cells link at cells v.address (act_of v.op) ≡ plain_cells cells v.address (act_of v.op)
  plain cells v out = plain_there link at cells v.address (act_of v.op) (not_own v out s.a) (not_own v out s.b) (not_own v out s.v)

  same_three : (cells : List Bool) (v : Visit) → IsElsewhere t v.address → three_at t (plain_cells cells v.address (act_of v.op)) ≡ three_at t cells
  same_three cells v out =
      let stays : (y : ℕ) → y ≢ v.address → cell (plain_cells cells v.address (act_of v.op)) y ≡ cell cells y = λ y ne. cell-plain_cells_other cells v.address (act_of v.op) y ne in
      three_bits _ _ _ _ _ _ (stays t.low (λ h. out.not_low (sym h))) (stays t.mid (λ h. out.not_mid (sym h))) (stays t.high (λ h. out.not_high (sym h)))

  pub three_sees : Sees (cells_behind link at) (is_wrong_there link at) (λ cells. cells) (three_at t) (seat_at t) n (machine_of link s) (λ cells. length cells ≡ n) (Unit {0})
  three_sees = record {
    size = λ strict cells size. size;
    holds = keeps;
    own_wrong = λ cells v i e within size.
        ap (is_wrong_of v.op) (ap (λ x. linked_answer link at cells x (act_of v.op)) (is_seat t v.address i e)
        ∙ answer_seen t n (seat_index i) link s cells (act_of v.op) is fits (seat_within i));
    own_seen = λ cells v i e within size.
        ap (λ x. three_at t (linked_cells link at cells x (act_of v.op))) (is_seat t v.address i e)
        ∙ step_seen t n (seat_index i) link s cells (act_of v.op) is fits size (seat_within i);
    own_leaves = λ strict cells v i y e out size.
        let off : IsElsewhere t y = no_seat t y out in
        linked_leaves link at cells v.address (act_of v.op) y (elsewhere t y s.v off) (λ h. elsewhere t y (seat_index i) off (h ∙ is_seat t v.address i e));
    other_wrong = λ strict cells v out within size.
        ap (is_wrong_of v.op) (plainly_answered link at cells v.address (act_of v.op) (not_own v out s.a) (not_own v out s.b) (not_own v out s.v));
    other_seen = λ cells v out within size. ap (three_at t) (plain cells v out) ∙ same_three cells v (no_seat t v.address out);
    other_cells = λ strict cells v out within size. plain cells v out;
    other_twice = λ q. refl;
    pause_seen = λ cells e size. pause_seen t n link s cells is fits size;
    pause_leaves = λ strict cells e y out size. pause_leaves link at cells y (elsewhere t y s.v (no_seat t y out));
  }
