-- The machine of two bits is what an instance in an array of any size looks like from its own cells.
use Rattle.std.proofs.Common.{◌≡◌, ◌≢◌, ◌<◌, ℕ, Bool, true, false, not, ◌&&◌, cond, List, length, refl, ap, sym, subst, ◌∙◌, arith}
use Rattle.std.specs.Prelude.{slice_set}
use Rattle.fault_core.specs.declared.primitive.Act.{Act}
use Rattle.fault_core.specs.declared.cells.Places.{Places}
use Rattle.fault_core.specs.Primitive.{Primitive, IsPrimitive, same_bit}
use Rattle.fault_core.specs.Cells.{cell, has_act, states_hold, close_of, acted, acts, plain_cells, step_cells, step_answer, pause_cells}
use Rattle.cell_machine.specs.declared.pair.Pair.{Pair}
use Rattle.cell_machine.specs.declared.pair.Side.{Side}
use Rattle.cell_machine.specs.declared.pair.Side.TheVariants.{A, V}
use Rattle.cell_machine.specs.Pairs.{pair_holds, side_holds, pair_close, pair_step, pair_answer, pair_pause, with_victim}
use Rattle.cell_machine.specs.inner.Pairs.{IsClosed}
use Rattle.cell_machine.specs.Seen.{pair_at, place_of}
use Rattle.cell_machine.specs.inner.Seen.{SeesPair}
use Rattle.cell_machine.proofs.Projection.{length-plain_cells, length-set_if, length-step_cells, states_hold-seen, pair_at-close_of, acts-elsewhere, pair_at-step_victim, pair_at-step_aggressor, step_answer-victim, step_answer-aggressor, step_answer-elsewhere, cell-step_cells_other, cell-plain_cells_other, pair_at-pause_cells, length-pause_cells, cell-pause_cells_other}
use Rattle.cell_machine.proofs.Closing.{left_state, pair_close-closed}
pub use Rattle.pair_tracker.specs.Pairs.{machine_of}
use Rattle.march_core.specs.Operation.{is_wrong_of}
use Rattle.march_core.specs.Visits.{MarchStep, pausing, visiting}
use Rattle.array_sim.specs.Differing.{after_step, is_wrong_at}
use Rattle.array_sim.specs.Run.{act_of}
use Rattle.pair_tracker.proofs.Few.{Sees}
use Rattle.pair_tracker.proofs.Tags.{side_at, side_is, no_side}

pub same_pair : (a v : ℕ) (c d : List Bool) → cell c a ≡ cell d a → cell c v ≡ cell d v → pair_at c a v ≡ pair_at d a v
same_pair a v c d ea ev =
    let make : Bool → Bool → Pair = λ x y. record { a = x; v = y } in
    ap (λ x. make x (cell c v)) ea ∙ ap (make (cell d a)) ev

-- the array is closed, as its two cells show
abbrev pub ShowsClosed : Primitive → ℕ → ℕ → List Bool → Type 0
ShowsClosed p a v cells = IsClosed p (pair_at cells a v)

resized : (p : Primitive) (at : Places) (a n k : ℕ) → k ≡ n → SeesPair p at a n → SeesPair p at a k
resized p at a n k e sees = subst (SeesPair p at a) (sym e) sees

-- where no states of a primitive without an act hold, closing changes nothing
closed_test : (p : Primitive) (q : Pair) → IsPrimitive p → IsClosed p q → not (has_act p) && pair_holds p q ≡ false
unfolding pair_close
closed_test p q is closed = go (not (has_act p)) refl (pair_holds p q) refl
  where
    go : (idle : Bool) → not (has_act p) ≡ idle → (holds : Bool) → pair_holds p q ≡ holds → idle && holds ≡ false
    go false e holds f = refl
    go true e false f = refl
    go true e true f =
        let set : pair_close p q ≡ with_victim q p.after = ap (λ b. cond b (with_victim q p.after) q) (ap (λ b. b && pair_holds p q) e ∙ f) in
        let after : p.after ≡ q.v = ap (λ (r : Pair). r.v) (sym set ∙ closed) in
        let left = left_state p is e in
        let other : pair_holds p q ≡ false = subst (λ b. same_bit b p.vic.state && side_holds p.agg q.a ≡ false) after (ap (λ b. b && side_holds p.agg q.a) left) in
        cc

-- an act on another cell of a closed array is plain
plain_elsewhere : (p : Primitive) (at : Places) (a n : ℕ) (cells : List Bool) (x : ℕ) (act : Act) → IsPrimitive p → SeesPair p at a n
    → x ≢ a → x ≢ at.vic → ShowsClosed p a at.vic cells → step_cells p at cells x act ≡ plain_cells cells x act
unfolding step_cells close_of
plain_elsewhere p at a n cells x act is sees xa xv closed =
    let own : acts p at cells x act ≡ false = acts-elsewhere p at a n cells x act sees xa xv in
    let plain : List Bool = plain_cells cells x act in
    let same : pair_at plain a at.vic ≡ pair_at cells a at.vic =
    same_pair a at.vic plain cells (cell-plain_cells_other cells x act a (λ e. xa (sym e))) (cell-plain_cells_other cells x act at.vic (λ e. xv (sym e))) in
    let idle : not (has_act p) && states_hold p at plain ≡ false =
    ap (λ b. not (has_act p) && b) (states_hold-seen p at a n plain sees ∙ ap (pair_holds p) same) ∙ closed_test p (pair_at cells a at.vic) is closed in
    ap (λ b. close_of p at (cond b (slice_set plain at.vic p.after) plain)) own ∙ ap (λ b. cond b (slice_set plain at.vic p.after) plain) idle

closes_all : (p : Primitive) (at : Places) (a n : ℕ) (cells : List Bool) (x : ℕ) (act : Act) → IsPrimitive p → SeesPair p at a n → length cells ≡ n
    → ShowsClosed p a at.vic (step_cells p at cells x act)
unfolding step_cells
closes_all p at a n cells x act is sees size =
    let done : List Bool = acted p at cells x act in
    let done_size : length done ≡ n = length-set_if (acts p at cells x act) (plain_cells cells x act) at.vic p.after ∙ length-plain_cells cells x act ∙ size in
    subst (IsClosed p) (sym (pair_at-close_of p at a done (resized p at a n (length done) done_size sees))) (pair_close-closed p (pair_at done a at.vic) is)

pause_closes_all : (p : Primitive) (at : Places) (a n : ℕ) (cells : List Bool) → IsPrimitive p → SeesPair p at a n → length cells ≡ n
    → ShowsClosed p a at.vic (pause_cells p at cells)
unfolding pair_pause
pause_closes_all p at a n cells is sees size =
    let paused : IsClosed p (pair_pause p (pair_at cells a at.vic)) = pair_close-closed p _ is in
    subst (IsClosed p) (sym (pair_at-pause_cells p at a cells (resized p at a n (length cells) size sees))) paused

-- the two cells of the instance, by their sides
own_answers : (p : Primitive) (at : Places) (a n : ℕ) → SeesPair p at a n → (s : Side) (cells : List Bool) (act : Act)
    → step_answer p at cells (place_of a at.vic s) act ≡ pair_answer p (pair_at cells a at.vic) s act
own_answers p at a n sees A cells act = step_answer-aggressor p at a n cells act sees
own_answers p at a n sees V cells act = step_answer-victim p at a n cells act sees

own_pairs : (p : Primitive) (at : Places) (a n : ℕ) → SeesPair p at a n → (s : Side) (cells : List Bool) (act : Act) → place_of a at.vic s < n → length cells ≡ n
    → pair_at (step_cells p at cells (place_of a at.vic s) act) a at.vic ≡ pair_step p (pair_at cells a at.vic) s act
own_pairs p at a n sees A cells act within size =
    pair_at-step_aggressor p at a cells act (resized p at a n (length cells) size sees) (subst (λ k. a < k) (sym size) within)
own_pairs p at a n sees V cells act within size = pair_at-step_victim p at a cells act (resized p at a n (length cells) size sees)

own_others : (p : Primitive) (at : Places) (a : ℕ) (s : Side) (cells : List Bool) (act : Act) (y : ℕ) → y ≢ a → y ≢ at.vic
    → cell (step_cells p at cells (place_of a at.vic s) act) y ≡ cell cells y
own_others p at a A cells act y ya yv = cell-step_cells_other p at cells a act y yv ∙ cell-plain_cells_other cells a act y ya
own_others p at a V cells act y ya yv = cell-step_cells_other p at cells at.vic act y yv ∙ cell-plain_cells_other cells at.vic act y yv

-- how an array of n cells looks from two of them, where what closing makes of them is known
module _ (p : Primitive) (at : Places) (a n : ℕ) (sees : SeesPair p at a n) (Closed : List Bool → Type 0)
    (closes : (cells : List Bool) (x : ℕ) (act : Act) → length cells ≡ n → Closed (step_cells p at cells x act))
    (pauses : (cells : List Bool) → length cells ≡ n → Closed (pause_cells p at cells))
    (plain : (cells : List Bool) (x : ℕ) (act : Act) → x < n → x ≢ a → x ≢ at.vic → Closed cells → step_cells p at cells x act ≡ plain_cells cells x act) where
  abbrev Held : List Bool → Type 0
  Held cells = (length cells ≡ n) × Closed cells

  keeps : (cells : List Bool) (step : MarchStep) → Held cells → Held (after_step p at cells step)
  keeps cells (pausing e) h = (length-pause_cells p at cells ∙ h.0, pauses cells h.0)
  keeps cells (visiting v) h = (length-step_cells p at cells v.address (act_of v.op) ∙ h.0, closes cells v.address (act_of v.op) h.0)

  pub pair_sees : Sees (after_step p at) (is_wrong_at p at) (λ cells. cells) (λ cells. pair_at cells a at.vic) (side_at a at.vic) n (machine_of p) Held (Unit {0})
  pair_sees = record {
    size = λ strict cells h. h.0;
    holds = keeps;
    own_wrong = λ cells v s e within h.
        ap (is_wrong_of v.op) (ap (λ x. step_answer p at cells x (act_of v.op)) (side_is a at.vic v.address s e) ∙ own_answers p at a n sees s cells (act_of v.op));
    own_seen = λ cells v s e within h.
        let is : v.address ≡ place_of a at.vic s = side_is a at.vic v.address s e in
        ap (λ x. pair_at (step_cells p at cells x (act_of v.op)) a at.vic) is ∙ own_pairs p at a n sees s cells (act_of v.op) (subst (λ x. x < n) is within) h.0;
    own_leaves = λ strict cells v s y e out h.
        let off = no_side a at.vic y out in
        ap (λ x. cell (step_cells p at cells x (act_of v.op)) y) (side_is a at.vic v.address s e) ∙ own_others p at a s cells (act_of v.op) y off.0 off.1;
    other_wrong = λ strict cells v out within h.
        let off = no_side a at.vic v.address out in ap (is_wrong_of v.op) (step_answer-elsewhere p at a n cells v.address (act_of v.op) sees off.0 off.1);
    other_seen = λ cells v out within h.
        let off = no_side a at.vic v.address out in
        ap (λ l. pair_at l a at.vic) (plain cells v.address (act_of v.op) within off.0 off.1 h.1)
        ∙ same_pair a at.vic (plain_cells cells v.address (act_of v.op)) cells (cell-plain_cells_other cells v.address (act_of v.op) a (λ e. off.0 (sym e)))
        (cell-plain_cells_other cells v.address (act_of v.op) at.vic (λ e. off.1 (sym e)));
    other_cells = λ strict cells v out within h. let off = no_side a at.vic v.address out in plain cells v.address (act_of v.op) within off.0 off.1 h.1;
    other_twice = λ q. refl;
    pause_seen = λ cells e h. pair_at-pause_cells p at a cells (resized p at a n (length cells) h.0 sees);
    pause_leaves = λ strict cells e y out h. cell-pause_cells_other p at cells y (no_side a at.vic y out).1;
  }

-- the array is closed
pub array_sees : (p : Primitive) (at : Places) (a n : ℕ) → IsPrimitive p → SeesPair p at a n
    → Sees (after_step p at) (is_wrong_at p at) (λ cells. cells) (λ cells. pair_at cells a at.vic) (side_at a at.vic) n (machine_of p)
    (λ cells. (length cells ≡ n) × ShowsClosed p a at.vic cells) (Unit {0})
array_sees p at a n is sees =
    pair_sees p at a n sees (ShowsClosed p a at.vic) (λ cells x act size. closes_all p at a n cells x act is sees size)
    (λ cells size. pause_closes_all p at a n cells is sees size) (λ cells x act within xa xv closed. plain_elsewhere p at a n cells x act is sees xa xv closed)

-- two cells alone, where there is no other cell that closing could reach
pub two_see : (p : Primitive) (at : Places) (a : ℕ) → SeesPair p at a 2 → a < 2
    → Sees (after_step p at) (is_wrong_at p at) (λ cells. cells) (λ cells. pair_at cells a at.vic) (side_at a at.vic) 2 (machine_of p) (λ cells. (length cells ≡ 2) × Unit {0}) (Unit {0})
two_see p at a sees within =
    pair_sees p at a 2 sees (λ cells. Unit {0}) (λ cells x act size. tt) (λ cells size. tt) (λ cells x act inside xa xv closed. absurd (no_third x inside xa xv))
  where
    no_third : (x : ℕ) → x < 2 → x ≢ a → x ≢ at.vic → ⊥
    no_third x inside xa xv =
        let apart : a ≢ at.vic = sees.apart in
        let victim : at.vic < 2 = sees.victim in
        omega arith
