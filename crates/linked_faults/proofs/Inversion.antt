-- Inversion coupling does at each step what its link does.
use Rattle.std.proofs.Common.{◌≡◌, ◌≢◌, ◌&&◌, ◌||◌, inl, ℕ, Bool, true, false, not, eqb, Option, Some, None, List, length, refl, ap, sym, subst, ◌∙◌}
use Rattle.std.specs.Prelude.{if◌then◌else◌, slice_set}
use Rattle.std.proofs.Math.Path.{ap₂, fun_ext}
use Rattle.fault_core.specs.declared.primitive.Act.{Act}
use Rattle.fault_core.specs.declared.primitive.Act.TheVariants.{Write, Pause}
use Rattle.fault_core.specs.declared.primitive.Sense.{Sense}
use Rattle.fault_core.specs.Primitive.{IsPrimitive, same_bit}
use Rattle.fault_core.specs.Cells.{cell, acts, same_act, plain_cells, plain_answer}
use Rattle.march_core.specs.March.{MarchElement}
use Rattle.march_core.specs.Operation.{is_wrong_of}
use Rattle.march_core.specs.Visits.{Visit, MarchStep, pausing, visiting, Direction, visits}
use Rattle.array_sim.specs.Run.{act_of}
use Rattle.array_sim.specs.Differing.{SomeDiffersBy}
use Rattle.linked_faults.specs.declared.link.Link.{Link}
use Rattle.linked_faults.specs.declared.link.LinkPlaces.{LinkPlaces}
use Rattle.linked_faults.specs.Linking.{IsLinked, FitsLinkPlaces, linked_cells, linked_answer, linked_pause}
use Rattle.linked_faults.specs.Detection.{cells_behind, is_wrong_there, IsCaught}
use Rattle.linked_faults.specs.Inversion.{TwoCells, inverted, inverted_behind, is_wrong_cell, InversionIsCaught, disturbing, both_disturbing, AreInversions}
use Rattle.linked_faults.specs.inner.Searching.{link_places_at}
use Rattle.linked_faults.proofs.Places.{third}

-- ---- the two primitives

not_same : (b : Bool) → not b ≢ b
not_same true e = cc
not_same false e = cc

abbrev act_in : Option Sense → Option Act
act_in None = None
act_in (Some sense) = sense.act

is_primitive : (from state : Bool) → IsPrimitive (disturbing from state)
is_primitive from state = record {
  one_act = λ h. refl;
  paused = λ h. cc;
  unpaused = λ sense is h. (let own : Some (Write (not from)) ≡ sense.act = ap act_in is in let clash : Some (Write (not from)) ≡ Some Pause = own ∙ h in cc);
  answered = (λ h. cc, λ h. cc);
  wrong_write = λ bit h. cc;
  wrong_read = λ h. cc;
  wrong_state = λ h. not_same state;
  wrong_pause = λ h. cc;
}

pub are_linked : (from state : Bool) → IsLinked (both_disturbing from state)
are_linked from state = record {
  first = is_primitive from state;
  second = is_primitive from (not state);
  first_acts = refl;
  second_acts = refl;
  wrong = not_same state;
  untold = inl refl;
  finds = refl;
  hides = not_same (not state);
  quiet = inl refl;
  shared = λ h. (refl, refl);
}

-- ---- one act

-- where the aggressor is turned, the one of the two whose state the victim holds sets the other
chosen : {A : Type 0} (none turns held v state : Bool) (set : Bool → A) (plain : A) → none ≡ false
    → (if (none || turns) && (same_bit v state && held) then set (not state)
    else if (none || turns) && (same_bit v (not state) && held) then set (not (not state)) else plain)
    ≡ (if turns && held then set (not v) else plain)
chosen true turns held v state set plain e = cc
chosen false false held v state set plain e = refl
chosen false true false true true set plain e = refl
chosen false true false true false set plain e = refl
chosen false true false false true set plain e = refl
chosen false true false false false set plain e = refl
chosen false true true true true set plain e = refl
chosen false true true true false set plain e = refl
chosen false true true false true set plain e = refl
chosen false true true false false set plain e = refl

always : {A : Type 0} (s t : Bool) (x : A) → (if s then x else if t then x else x) ≡ x
always true t x = refl
always false true x = refl
always false false x = refl

no_one : (b : Bool) → (b && false) ≡ false
no_one true = refl
no_one false = refl

module _ (from state : Bool) (at : LinkPlaces) where
  abbrev link : Link
  link = both_disturbing from state

  abbrev two : TwoCells
  two = record { agg = at.a; vic = at.v }

  same_cells : (cells : List Bool) (x : ℕ) (act : Act) → linked_cells link at cells x act ≡ inverted from two cells x act
  unfolding linked_cells acts
  same_cells cells x act =
      chosen (eqb at.v x && false) (eqb at.a x && same_act (Write (not from)) act) (same_bit (cell cells at.a) from) (cell cells at.v) state
      (λ b. slice_set (plain_cells cells x act) at.v b) (plain_cells cells x act) (no_one (eqb at.v x))

  same_answers : (cells : List Bool) (x : ℕ) (act : Act) → linked_answer link at cells x act ≡ plain_answer cells x act
  unfolding linked_answer
  same_answers cells x act = always _ _ (plain_answer cells x act)

  same_pauses : (cells : List Bool) → linked_pause link at cells ≡ cells
  unfolding linked_pause
  same_pauses cells = refl

  -- ---- runs

  same_behind : (cells : List Bool) (step : MarchStep) → cells_behind link at cells step ≡ inverted_behind from two cells step
  same_behind cells (pausing element) = same_pauses cells
  same_behind cells (visiting v) = same_cells cells v.address (act_of v.op)

  same_wrong : (cells : List Bool) (v : Visit) → is_wrong_there link at cells v ≡ is_wrong_cell cells v
  same_wrong cells v = ap (is_wrong_of v.op) (same_answers cells v.address (act_of v.op))

  same_caught : (march : List MarchElement) (ds : List Direction) (content : List Bool) → IsCaught march ds link at content ≡ InversionIsCaught march ds from two content
  same_caught march ds content =
      ap₂ (λ (f : List Bool → MarchStep → List Bool) (w : List Bool → Visit → Bool). SomeDiffersBy f w content (visits march ds (length content)))
      (fun_ext (λ cells. fun_ext (λ step. same_behind cells step))) (fun_ext (λ cells. fun_ext (λ v. same_wrong cells v)))

-- ---- verdicts

pub inversions : AreInversions
inversions from state = record {
  linked = are_linked from state;
  cells = λ at cells x act. same_cells from state at cells x act;
  answers = λ at cells x act. same_answers from state at cells x act;
  pauses = λ at cells. same_pauses from state at cells;
  verdicts = λ march. (
    λ detects size directions at content more allowed a v apart len.
        let other = third size at.agg at.vic more in
        let spots : LinkPlaces = link_places_at at.agg other.0 at.vic in
        let fits : FitsLinkPlaces spots size = record {
          a_within = a;
          b_within = other.1.within;
          v_within = v;
          a_v = apart;
          b_v = other.1.not_y;
          a_b = λ e. other.1.not_x (sym e);
        } in
        subst (λ (T : Type 0). T) (same_caught from state spots march directions content) (detects size more directions spots content allowed fits len),
    λ detects size more directions at content allowed fits len.
        subst (λ (T : Type 0). T) (sym (same_caught from state at march directions content))
        (detects size directions (record { agg = at.a; vic = at.v }) content more allowed fits.a_within fits.v_within fits.a_v len),
  );
}
