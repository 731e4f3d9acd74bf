-- A dynamic primitive of two operations does what its sequence does.
use Rattle.std.proofs.Common.{◌≡◌, ◌↔◌, ◌-◌, ◌&&◌, ℕ, Bool, true, false, cond, eqb, not, Option, Some, None, is_some, List, [], ◌∷◌, ◌++◌, length, get_or, refl, ap, sym, ◌∙◌, arith}
use Rattle.std.proofs.lemmas.Bool.{and_parts, eqb-true}
use Rattle.fault_core.specs.declared.primitive.Act.{Act}
use Rattle.fault_core.specs.declared.cells.Places.{Places}
use Rattle.fault_core.specs.Primitive.{same_bit}
use Rattle.fault_core.specs.Cells.{cell, same_act, plain_cells, plain_answer, answer_or}
use Rattle.fault_core.proofs.Tests.{same_bit-equal, same_act-equal}
use Rattle.march_core.specs.Operation.{is_wrong_of}
use Rattle.march_core.specs.Visits.{MarchStep, pausing, visiting, visits}
use Rattle.array_sim.specs.Differing.{SomeDiffersBy}
use Rattle.array_sim.specs.Run.{act_of}
use Rattle.dynamic_core.specs.declared.stepping.Actor.{Actor}
use Rattle.dynamic_core.specs.Primitive.{TwoActs, DynamicSense, DynamicPrimitive, IsDynamic, aggressor_acts, left_by as dyn_left_by}
use Rattle.dynamic_core.specs.Dynamic.{actor_on, actor_of, all_states_hold, Held as DynHeld, held_as as dyn_held_as, matches_of, arms_of, dyn_cells, dyn_step, dyn_answer}
use Rattle.dynamic_core.specs.Differing.{held_after as dyn_after, is_wrong_visit as is_dyn_wrong}
use Rattle.dynamic_core.specs.Detecting.{FitsDynAgg, FitsDyn}
use Rattle.sequence_faults.specs.Primitive.{SequencePrimitive, left_by}
use Rattle.sequence_faults.specs.Stepping.{Held, held_as, nothing, victim_at, actor_at, states_hold, done_by, begun, is_whole, set_where, seq_cells, kept_where, seq_step, seq_answer}
use Rattle.sequence_faults.specs.Detection.{held_after, is_wrong_visit}
use Rattle.sequence_faults.specs.Agreeing.{addresses_of, agg_dyn_state, two_acts, sequence_of_dynamic, AsDynamic}
use Rattle.sequence_faults.proofs.Simulating.{both_differ}

abbrev actor : ℕ → Bool → Act → Act → Actor
actor place state first second = record { place = place; state = state; first = first; second = second }

-- what both are made of
record IsBoth (p : DynamicPrimitive) (at : Places) : Type 0 where
  place : ℕ
  state : Bool
  first : Act
  second : Act
  acts_dyn : actor_of p at ≡ Some (actor place state first second)
  acts_on : actor_at (sequence_of_dynamic p) (addresses_of at) ≡ place
  acts_are : two_acts p.vic.acts ++ two_acts (aggressor_acts p.agg) ≡ first ∷ second ∷ []
  holds : (cells : List Bool) → states_hold (agg_dyn_state p.agg ++ p.vic.state ∷ []) (addresses_of at) cells ≡ all_states_hold p at cells
  held : (cells : List Bool) → all_states_hold p at cells ≡ true → cell cells place ≡ state
  victim : victim_at (sequence_of_dynamic p) (addresses_of at) ≡ at.vic

same_bits : (a b : Bool) → (same_bit a b && true) ≡ same_bit a b
same_bits true true = refl
same_bits true false = refl
same_bits false true = refl
same_bits false false = refl

is_both : (p : DynamicPrimitive) (at : Places) (n : ℕ) → IsDynamic p → FitsDyn p at n → IsBoth p at
is_both p at n is fits = go p.agg at.agg p.vic.acts is.one_acts fits.aggressor
  where
    swap : (a b : Bool) → (a && (b && true)) ≡ (b && a)
    swap true true = refl
    swap true false = refl
    swap false true = refl
    swap false false = refl

    go : (agg : Option DynamicSense) (place : Option ℕ) (acts : Option TwoActs) → is_some (aggressor_acts agg) ≡ not (is_some acts) → FitsDynAgg agg place at.vic n
        → IsBoth (record { agg = agg; vic = record { state = p.vic.state; acts = acts }; after = p.after; answer = p.answer }) (record { agg = place; vic = at.vic })
    go None None None one f = cc
    go None None (Some acts) one f = record {
      place = at.vic;
      state = p.vic.state;
      first = acts.first;
      second = acts.second;
      acts_dyn = refl;
      acts_on = refl;
      acts_are = refl;
      holds = λ cells. refl;
      held = λ cells h. same_bit-equal _ _ (and_parts (same_bit (cell cells at.vic) p.vic.state) true h).0;
      victim = refl;
    }
    go None (Some a) acts one f = absurd f
    go (Some sense) None acts one f = absurd f
    go (Some sense) (Some a) (Some acts) one f = record {
      place = at.vic;
      state = p.vic.state;
      first = acts.first;
      second = acts.second;
      acts_dyn = refl;
      acts_on = refl;
      acts_are = ap (λ l. acts.first ∷ acts.second ∷ l) (none sense.acts one);
      holds = λ cells. swap (same_bit (cell cells a) sense.state) (same_bit (cell cells at.vic) p.vic.state);
      held = λ cells h. same_bit-equal _ _ (and_parts (same_bit (cell cells at.vic) p.vic.state) (same_bit (cell cells a) sense.state) h).0;
      victim = refl;
    }
      where
        none : (o : Option TwoActs) → is_some o ≡ false → two_acts o ≡ []
        none None e = refl
        none (Some acts) e = cc
    go (Some sense) (Some a) None one f = by sense.acts refl one
      where
        by : (o : Option TwoActs) → sense.acts ≡ o → is_some sense.acts ≡ true
            → IsBoth (record { agg = Some sense; vic = record { state = p.vic.state; acts = None }; after = p.after; answer = p.answer }) (record { agg = Some a; vic = at.vic })
        by None e some = (let clash : false ≡ true = sym (ap (λ (o : Option TwoActs). is_some o) e) ∙ some in cc)
        by (Some acts) e some = record {
          place = a;
          state = sense.state;
          first = acts.first;
          second = acts.second;
          acts_dyn = ap (actor_on a sense.state) e;
          acts_on = refl;
          acts_are = ap two_acts e;
          holds = λ cells. swap (same_bit (cell cells a) sense.state) (same_bit (cell cells at.vic) p.vic.state);
          held = λ cells h. same_bit-equal _ _ (and_parts (same_bit (cell cells at.vic) p.vic.state) (same_bit (cell cells a) sense.state) h).1;
          victim = refl;
        }

-- ---- a step of both

record IsTwo (act first second : Act) (holds : Bool) (done : List Bool) : Type 0 where
  rest : List Bool
  is : done_by act holds (first ∷ second ∷ []) done ≡ (holds && same_act act first) ∷ (get_or done 0 false && same_act act second) ∷ rest
  size : length rest ≡ 14

two_done : (act first second : Act) (holds : Bool) (done : List Bool) → length done ≡ 16 → IsTwo act first second holds done
two_done act first second holds [] e = absurd (omega arith)
two_done act first second holds (d ∷ []) e = absurd (omega arith)
two_done act first second holds (d ∷ b ∷ rest) e = record { rest = rest; is = refl; size = omega arith }

left_same : (bit : Bool) (act : Act) → left_by bit act ≡ dyn_left_by bit act
left_same bit act = refl

and_none : (b : Bool) → (b && false) ≡ false
and_none true = refl
and_none false = refl

kept_first : (plain b : Bool) (rest : List Bool) → get_or (kept_where plain (b ∷ rest)) 0 false ≡ cond plain b false
kept_first true b rest = refl
kept_first false b rest = refl

kept_none : (plain : Bool) → kept_where plain nothing ≡ nothing
kept_none true = refl
kept_none false = refl

length-kept : (plain : Bool) (done : List Bool) → length done ≡ 16 → length (kept_where plain done) ≡ 16
length-kept true done e = e
length-kept false done e = refl

module _ (p : DynamicPrimitive) (at : Places) (both : IsBoth p at) where
  abbrev q : SequencePrimitive
  q = sequence_of_dynamic p

  abbrev cells_at : List ℕ
  cells_at = addresses_of at

  record Same (h : Held) (k : DynHeld) : Type 0 where
    cells : h.cells ≡ k.cells
    armed : get_or h.done 0 false ≡ k.armed
    sixteen : length h.done ≡ 16

  module _ (h : Held) (k : DynHeld) (same : Same h k) (x : ℕ) (act : Act) where
    abbrev own : Bool
    own = eqb both.place x

    abbrev holds : Bool
    holds = all_states_hold p at k.cells

    abbrev two : IsTwo act both.first both.second holds h.done
    two = two_done act both.first both.second holds h.done same.sixteen

    abbrev list : List Bool
    list = (holds && same_act act both.first) ∷ (k.armed && same_act act both.second) ∷ two.rest

    begun_is : begun q cells_at h x act ≡ cond own list nothing
    begun_is =
        ap (λ y. cond (eqb y x) (done_by act (states_hold q.states cells_at h.cells) q.acts h.done) nothing) both.acts_on
        ∙ ap (λ b. cond own (done_by act b q.acts h.done) nothing) (both.holds h.cells ∙ ap (all_states_hold p at) same.cells)
        ∙ ap (λ l. cond own (done_by act holds l h.done) nothing) both.acts_are
        ∙ ap (λ l. cond own l nothing) (two.is ∙ ap (λ b. (holds && same_act act both.first) ∷ (b && same_act act both.second) ∷ two.rest) same.armed)

    whole_is : (b : Bool) → is_whole q (cond b list nothing) ≡ (k.armed && (b && same_act act both.second))
    whole_is true = ap (λ l. get_or list (length l - 1) false) both.acts_are
    whole_is false = ap (λ l. get_or nothing (length l - 1) false) both.acts_are ∙ sym (and_none k.armed)

    hit_same : is_whole q (begun q cells_at h x act) ≡ matches_of (actor_of p at) k.armed x act
    hit_same = ap (is_whole q) begun_is ∙ whole_is own ∙ ap (λ o. matches_of o k.armed x act) (sym both.acts_dyn)

    cells_same : seq_cells q cells_at h x act ≡ dyn_cells p at k x act
    unfolding seq_cells dyn_cells
    cells_same =
        ap (λ b. set_where b (plain_cells h.cells x act) (victim_at q cells_at) p.after) hit_same
        ∙ ap (λ c. set_where (matches_of (actor_of p at) k.armed x act) (plain_cells c x act) (victim_at q cells_at) p.after) same.cells
        ∙ ap (λ v. set_where (matches_of (actor_of p at) k.armed x act) (plain_cells k.cells x act) v p.after) both.victim

    answer_same : seq_answer q cells_at h x act ≡ dyn_answer p at k x act
    unfolding seq_answer dyn_answer
    answer_same =
        let told : Bool → List Bool → Option Bool = λ b c. cond b (answer_or p.answer (plain_answer c x act)) (plain_answer c x act) in
        ap (λ b. told b h.cells) hit_same ∙ ap (told (matches_of (actor_of p at) k.armed x act)) same.cells

    abbrev plain : Bool
    plain = same_bit (cell (dyn_cells p at k x act) x) (left_by (cell k.cells x) act)

    plain_same : same_bit (cell (seq_cells q cells_at h x act) x) (left_by (cell h.cells x) act) ≡ plain
    plain_same =
        ap (λ c. same_bit (cell c x) (left_by (cell h.cells x) act)) cells_same
        ∙ ap (λ c. same_bit (cell (dyn_cells p at k x act) x) (left_by (cell c x) act)) same.cells

    -- where it begins, the cell held its state, and the act is the first
    begins : (b t u : Bool) → eqb both.place x ≡ b → holds ≡ t → same_act act both.first ≡ u
        → get_or (kept_where plain (cond b ((t && u) ∷ (k.armed && same_act act both.second) ∷ two.rest) nothing)) 0 false
        ≡ ((b && u) && (t && same_bit (cell (dyn_cells p at k x act) both.place) (dyn_left_by both.state both.first)))
    begins false t u e f g = ap (λ l. get_or l 0 false) (kept_none plain)
    begins true t false e f g = kept_first plain (t && false) _ ∙ none plain t
      where
        none : (a b : Bool) → cond a (b && false) false ≡ false
        none true b = and_none b
        none false b = refl
    begins true false true e f g = kept_first plain false _ ∙ none plain
      where
        none : (a : Bool) → cond a false false ≡ false
        none true = refl
        none false = refl
    begins true true true e f g =
        let here : both.place ≡ x = eqb-true both.place x e in
        let is : act ≡ both.first = same_act-equal act both.first g in
        let state : cell k.cells both.place ≡ both.state = both.held k.cells f in
        kept_first plain true _ ∙ itself plain
        ∙ ap (λ y. same_bit (cell (dyn_cells p at k x act) y) (left_by (cell k.cells y) act)) (sym here)
        ∙ ap (λ b. same_bit (cell (dyn_cells p at k x act) both.place) (left_by b act)) state
        ∙ ap (λ a. same_bit (cell (dyn_cells p at k x act) both.place) (left_by both.state a)) is
      where
        itself : (a : Bool) → cond a true false ≡ a
        itself true = refl
        itself false = refl

    size_kept : length (kept_where plain (cond own list nothing)) ≡ 16
    size_kept = length-kept plain (cond own list nothing) (go own)
      where
        go : (b : Bool) → length (cond b list nothing) ≡ 16
        go true = let size = two.size in omega arith
        go false = refl

    step_same : Same (seq_step q cells_at h x act) (dyn_step p at k x act)
    unfolding seq_step dyn_step
    step_same =
        let done : kept_where (same_bit (cell (seq_cells q cells_at h x act) x) (left_by (cell h.cells x) act)) (begun q cells_at h x act) ≡ kept_where plain (cond own list nothing) =
        ap (λ b. kept_where b (begun q cells_at h x act)) plain_same ∙ ap (kept_where plain) begun_is in
        record {
          cells = cells_same;
          armed = ap (λ l. get_or l 0 false) done ∙ begins own holds (same_act act both.first) refl refl refl
              ∙ ap (λ o. arms_of o holds (dyn_cells p at k x act) x act) (sym both.acts_dyn);
          sixteen = ap length done ∙ size_kept;
        }

  stays : (h : Held) (k : DynHeld) (step : MarchStep) → Same h k → Same (held_after q cells_at h step) (dyn_after p at k step)
  stays h k (pausing e) same = record { cells = same.cells; armed = refl; sixteen = refl }
  stays h k (visiting v) same = step_same h k same v.address (act_of v.op)

  caught_same : (content : List Bool) (steps : List MarchStep)
      → SomeDiffersBy (held_after q cells_at) (is_wrong_visit q cells_at) (held_as content nothing) steps ↔ SomeDiffersBy (dyn_after p at) (is_dyn_wrong p at) (dyn_held_as content false) steps
  caught_same content steps =
      both_differ (held_after q cells_at) (is_wrong_visit q cells_at) (dyn_after p at) (is_dyn_wrong p at) Same stays
      (λ h k v same. ap (is_wrong_of v.op) (answer_same h k same v.address (act_of v.op))) (held_as content nothing) (dyn_held_as content false) steps
      (record { cells = refl; armed = refl; sixteen = refl })

pub as_dynamic : AsDynamic
unfolding AsDynamic
as_dynamic p at march directions content is fits = caught_same p at (is_both p at (length content) is fits) content (visits march directions (length content))
