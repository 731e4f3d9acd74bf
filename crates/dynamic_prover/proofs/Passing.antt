-- An array with an instance of a dynamic primitive, seen from its two cells: an act on another cell leaves nothing armed, and does nothing else to them.
use Rattle.std.proofs.Common.{◌≡◌, ◌≢◌, ◌<◌, ℕ, Bool, false, List, length, map, refl, ap, sym, subst, ◌∙◌}
use Rattle.fault_core.specs.declared.cells.Places.{Places}
use Rattle.fault_core.specs.Cells.{cell, plain_cells}
use Rattle.march_core.specs.declared.operation.Op.{Op}
use Rattle.march_core.specs.Operation.{is_wrong_of}
use Rattle.march_core.specs.Visits.{MarchStep, pausing, visiting, Direction, addresses}
use Rattle.array_sim.specs.Run.{act_of}
use Rattle.cell_machine.specs.declared.pair.Side.{Side}
use Rattle.cell_machine.specs.declared.pair.Side.TheVariants.{A, V}
use Rattle.cell_machine.specs.Seen.{place_of}
use Rattle.cell_machine.proofs.Projection.{cell-plain_cells_other}
use Rattle.pair_tracker.specs.Few.{cells_run}
use Rattle.pair_tracker.proofs.Few.{Sees}
use Rattle.pair_tracker.proofs.Tags.{side_at, side_is, no_side}
use Rattle.dynamic_core.specs.Primitive.{DynamicPrimitive}
use Rattle.dynamic_core.specs.Dynamic.{Held, held_as, dyn_step, dyn_answer}
use Rattle.dynamic_core.specs.Differing.{held_after, is_wrong_visit}
use Rattle.dynamic_prover.specs.declared.own_cells.OwnCells.{OwnCells}
use Rattle.dynamic_prover.specs.declared.shape.Shape.{Shape}
use Rattle.dynamic_prover.specs.inner.Own.{own_as, disarmed, machine_of}
use Rattle.dynamic_prover.specs.inner.Shapes.{order_of}
use Rattle.dynamic_prover.proofs.Own.{own_of, About, answer_seen, step_seen, others_stay, other_answer, other_step, length-dyn_step}

same_pair : (a v : ℕ) (h : Held) (cells : List Bool) → cell cells a ≡ cell h.cells a → cell cells v ≡ cell h.cells v
    → own_of a v (held_as cells false) ≡ disarmed (own_of a v h)
same_pair a v h cells e f =
    let make : Bool → Bool → OwnCells = λ x y. own_as (record { a = x; v = y }) false in
    ap (λ x. make x (cell cells v)) e ∙ ap (make (cell h.cells a)) f

placed_off : (a v y : ℕ) (s : Side) → y ≢ a → y ≢ v → y ≢ place_of a v s
placed_off a v y A ya yv = ya
placed_off a v y V ya yv = yv

module _ (p : DynamicPrimitive) (at : Places) (a n : ℕ) (ab : About p at a n) where
  keeps : (h : Held) (step : MarchStep) → length h.cells ≡ n → (let left : Held = held_after p at h step in length left.cells ≡ n)
  keeps h (pausing e) size = size
  keeps h (visiting v) size = length-dyn_step p at h v.address (act_of v.op) ∙ size

  pub dyn_sees : Sees (held_after p at) (is_wrong_visit p at) (λ h. h.cells) (own_of a at.vic) (side_at a at.vic) n (machine_of p) (λ h. length h.cells ≡ n) (Unit {0})
  dyn_sees = record {
    size = λ strict h size. size;
    holds = keeps;
    own_wrong = λ h v s e within size.
        ap (is_wrong_of v.op) (ap (λ x. dyn_answer p at h x (act_of v.op)) (side_is a at.vic v.address s e) ∙ answer_seen p at a n ab h s (act_of v.op));
    own_seen = λ h v s e within size.
        let is : v.address ≡ place_of a at.vic s = side_is a at.vic v.address s e in
        ap (λ x. own_of a at.vic (dyn_step p at h x (act_of v.op))) is ∙ step_seen p at a n ab h s (act_of v.op) (subst (λ x. x < n) is within) size;
    own_leaves = λ strict h v s y e out size.
        let off = no_side a at.vic y out in
        others_stay p at h v.address (act_of v.op) y (λ same. placed_off a at.vic y s off.0 off.1 (same ∙ side_is a at.vic v.address s e)) off.1;
    other_wrong = λ strict h v out within size.
        let off = no_side a at.vic v.address out in ap (is_wrong_of v.op) (other_answer p at a n ab h v.address (act_of v.op) off.0 off.1);
    other_seen = λ h v out within size.
        let off = no_side a at.vic v.address out in
        let cells : List Bool = plain_cells h.cells v.address (act_of v.op) in
        ap (own_of a at.vic) (other_step p at a n ab h v.address (act_of v.op) off.0 off.1)
        ∙ same_pair a at.vic h cells (cell-plain_cells_other h.cells v.address (act_of v.op) a (λ e. off.0 (sym e)))
        (cell-plain_cells_other h.cells v.address (act_of v.op) at.vic (λ e. off.1 (sym e)));
    other_cells = λ strict h v out within size.
        let off = no_side a at.vic v.address out in ap (λ (g : Held). g.cells) (other_step p at a n ab h v.address (act_of v.op) off.0 off.1);
    other_twice = λ q. refl;
    pause_seen = λ h e size. refl;
    pause_leaves = λ strict h e y out size. refl;
  }

-- a shape that does the same as the addresses do
abbrev pub DoesSame : DynamicPrimitive → ℕ → ℕ → ℕ → Shape → Type 0
DoesSame p a v n shape =
    (d : Direction) (q : OwnCells) (ops : List Op) → cells_run (machine_of p) q (map (side_at a v) (addresses d n)) ops ≡ cells_run (machine_of p) q (order_of shape d) ops
