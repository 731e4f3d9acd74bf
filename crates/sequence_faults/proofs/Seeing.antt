-- An array with an instance, seen from the instance's cells.
use Rattle.std.proofs.Common.{◌≡◌, ◌≢◌, ◌<◌, ℕ, Bool, Some, None, List, length, refl, ap, sym, subst, ◌∙◌}
use Rattle.fault_core.specs.Cells.{cell, plain_cells}
use Rattle.march_core.specs.Operation.{is_wrong_of}
use Rattle.march_core.specs.Visits.{Visit, MarchStep, pausing, visiting}
use Rattle.array_sim.specs.Run.{act_of}
use Rattle.cell_machine.proofs.Projection.{cell-plain_cells_other}
use Rattle.pair_tracker.proofs.Few.{Sees}
use Rattle.sequence_faults.specs.declared.few.Spots.{Spots}
use Rattle.sequence_faults.specs.Primitive.{SequencePrimitive, victim_index}
use Rattle.sequence_faults.specs.Stepping.{Held, held_as, nothing, seq_step, seq_answer}
use Rattle.sequence_faults.specs.Detection.{held_after, is_wrong_visit}
use Rattle.sequence_faults.specs.inner.Few.{few_as, machine_of, seat_at, few_at, passed_by}
use Rattle.sequence_faults.proofs.Seen.{place, About, IsSeat, Says, says, elsewhere, step_seen, answer_seen, other_step, other_answer, length-seq_cells, seq_leaves}

module _ (p : SequencePrimitive) (at : List ℕ) (s : Spots) (ab : About p at s) where
  seat : (x i : ℕ) → seat_at s x ≡ Some i → IsSeat s x i
  seat x i e = subst (Says s x) e (says s x)

  off : (x : ℕ) → seat_at s x ≡ None → (i : ℕ) → place s i ≢ x
  off x e i = elsewhere s x i (subst (Says s x) e (says s x))

  length-step : (h : Held) (x : ℕ) (v : Visit) → length (seq_step p at h x (act_of v.op)).cells ≡ length h.cells
  unfolding seq_step
  length-step h x v = length-seq_cells p at h x (act_of v.op)

  keeps : (h : Held) (step : MarchStep) → length h.cells ≡ s.size → (let left : Held = held_after p at h step in length left.cells ≡ s.size)
  keeps h (pausing e) size = size
  keeps h (visiting v) size = length-step h v.address v ∙ size

  leaves : (h : Held) (v : Visit) (i y : ℕ) → seat_at s v.address ≡ Some i → seat_at s y ≡ None → (let left : Held = seq_step p at h v.address (act_of v.op) in cell left.cells y ≡ cell h.cells y)
  unfolding seq_step
  leaves h v i y e out =
      seq_leaves p at h v.address (act_of v.op) y (λ same. off y out i (sym (same ∙ (seat v.address i e).is)))
      (λ same. off y out (victim_index p) (sym (same ∙ ab.victim)))

  same_few : (h : Held) (cells : List Bool) → cell cells s.a ≡ cell h.cells s.a → cell cells s.b ≡ cell h.cells s.b → cell cells s.c ≡ cell h.cells s.c
      → few_at s (held_as cells nothing) ≡ passed_by (few_at s h)
  same_few h cells e f g =
      ap (λ x. few_as x (cell cells s.b) (cell cells s.c) nothing) e ∙ ap (λ y. few_as (cell h.cells s.a) y (cell cells s.c) nothing) f
      ∙ ap (λ z. few_as (cell h.cells s.a) (cell h.cells s.b) z nothing) g

  passed : (h : Held) (v : Visit) → seat_at s v.address ≡ None → few_at s (seq_step p at h v.address (act_of v.op)) ≡ passed_by (few_at s h)
  passed h v out =
      let x : ℕ = v.address in
      let stays : (i : ℕ) → cell (plain_cells h.cells x (act_of v.op)) (place s i) ≡ cell h.cells (place s i) =
      λ i. cell-plain_cells_other h.cells x (act_of v.op) (place s i) (off x out i) in
      ap (few_at s) (other_step p at s ab h (act_of v.op) x (off x out)) ∙ same_few h (plain_cells h.cells x (act_of v.op)) (stays 0) (stays 1) (stays 2)

  pub seq_sees : Sees (held_after p at) (is_wrong_visit p at) (λ h. h.cells) (few_at s) (seat_at s) s.size (machine_of p) (λ h. length h.cells ≡ s.size) (Unit {0})
  seq_sees = record {
    size = λ strict h size. size;
    holds = keeps;
    own_wrong = λ h v i e within size.
        let is = seat v.address i e in
        ap (is_wrong_of v.op) (ap (λ x. seq_answer p at h x (act_of v.op)) is.is ∙ answer_seen p at s ab h (act_of v.op) i is.within);
    own_seen = λ h v i e within size.
        let is = seat v.address i e in
        ap (λ x. few_at s (seq_step p at h x (act_of v.op))) is.is ∙ step_seen p at s ab h (act_of v.op) i is.within size (subst (λ x. x < s.size) is.is within);
    own_leaves = λ strict h v i y e out size. leaves h v i y e out;
    other_wrong = λ strict h v out within size. ap (is_wrong_of v.op) (other_answer p at s ab h (act_of v.op) v.address (off v.address out));
    other_seen = λ h v out within size. passed h v out;
    other_cells = λ strict h v out within size. ap (λ (g : Held). g.cells) (other_step p at s ab h (act_of v.op) v.address (off v.address out));
    other_twice = λ q. refl;
    pause_seen = λ h e size. refl;
    pause_leaves = λ strict h e y out size. refl;
  }
