-- A static primitive of one operation does what its sequence does.
use Rattle.std.proofs.Common.{◌≡◌, ◌↔◌, ◌-◌, ◌&&◌, ◌||◌, ℕ, Bool, true, false, cond, eqb, not, Option, Some, None, is_some, List, [], ◌∷◌, ◌++◌, length, get_or, refl, ap, sym, ◌∙◌, arith}
use Rattle.std.specs.Prelude.{slice_set}
use Rattle.fault_core.specs.declared.primitive.Act.{Act}
use Rattle.fault_core.specs.declared.primitive.Act.TheVariants.{Write, Read, Pause}
use Rattle.fault_core.specs.declared.primitive.Sense.{Sense}
use Rattle.fault_core.specs.declared.cells.Places.{Places}
use Rattle.fault_core.specs.Primitive.{Primitive, IsPrimitive, agg_has_act, same_bit, is_retention}
use Rattle.fault_core.specs.Cells.{cell, same_act, plain_cells, plain_answer, answer_or, has_act, has_this_act, acts, acted, states_hold as static_hold, close_of, step_cells, step_answer, pause_cells, FitsAgg, FitsPlace}
use Rattle.march_core.specs.Operation.{is_wrong_of}
use Rattle.march_core.specs.Visits.{MarchStep, pausing, visiting, visits}
use Rattle.array_sim.specs.Differing.{SomeDiffersBy, after_step, is_wrong_at}
use Rattle.array_sim.specs.Run.{act_of}
use Rattle.sequence_faults.specs.Primitive.{SequencePrimitive, left_by}
use Rattle.sequence_faults.specs.Stepping.{Held, held_as, nothing, victim_at, actor_at, states_hold, done_by, begun, is_whole, set_where, seq_cells, kept_where, seq_step, seq_answer}
use Rattle.sequence_faults.specs.Detection.{held_after, is_wrong_visit}
use Rattle.sequence_faults.specs.Agreeing.{addresses_of, agg_state, one_act, agg_act, sequence_of_static, AsStatic}
use Rattle.sequence_faults.proofs.Simulating.{both_differ}

same_turned : (a b : Act) → same_act a b ≡ same_act b a
same_turned (Write true) (Write true) = refl
same_turned (Write true) (Write false) = refl
same_turned (Write false) (Write true) = refl
same_turned (Write false) (Write false) = refl
same_turned (Write bit) Read = refl
same_turned (Write bit) Pause = refl
same_turned Read (Write bit) = refl
same_turned Read Read = refl
same_turned Read Pause = refl
same_turned Pause (Write bit) = refl
same_turned Pause Read = refl
same_turned Pause Pause = refl

-- what both are made of
record IsOne (p : Primitive) (at : Places) : Type 0 where
  place : ℕ
  own : Act
  acts_at : (cells : List Bool) (x : ℕ) (act : Act) → acts p at cells x act ≡ (eqb place x && same_act own act) && static_hold p at cells
  acts_on : actor_at (sequence_of_static p) (addresses_of at) ≡ place
  acts_are : one_act p.vic.act ++ one_act (agg_act p.agg) ≡ own ∷ []
  holds : (cells : List Bool) → states_hold (agg_state p.agg ++ p.vic.state ∷ []) (addresses_of at) cells ≡ static_hold p at cells
  victim : victim_at (sequence_of_static p) (addresses_of at) ≡ at.vic

swap : (a b : Bool) → (a && (b && true)) ≡ (b && a)
swap true true = refl
swap true false = refl
swap false true = refl
swap false false = refl

and_none : (b : Bool) → (b && false) ≡ false
and_none true = refl
and_none false = refl

or_none : (b : Bool) → (b || false) ≡ b
or_none true = refl
or_none false = refl

no_act : (o : Option Act) → (is_some o ≡ true → ⊥) → o ≡ None
no_act None h = refl
no_act (Some act) h = absurd (h refl)

is_one : (p : Primitive) (at : Places) (n : ℕ) → IsPrimitive p → has_act p ≡ true → FitsPlace p at n → IsOne p at
unfolding acts
is_one p at n is some fits = go p.agg at.agg p.vic.act is.one_act some fits.aggressor
  where
    go : (agg : Option Sense) (place : Option ℕ) (own : Option Act) → (agg_has_act agg ≡ true → own ≡ None) → (is_some own || agg_has_act agg) ≡ true → FitsAgg agg place at.vic n
        → IsOne (record { agg = agg; vic = record { state = p.vic.state; act = own }; after = p.after; answer = p.answer }) (record { agg = place; vic = at.vic })
    go None None None one some f = cc
    go None None (Some own) one some f = record {
      place = at.vic;
      own = own;
      acts_at = acts_alone;
      acts_on = refl;
      acts_are = refl;
      holds = λ cells. refl;
      victim = refl;
    }
      where
        acts_alone : (cells : List Bool) (x : ℕ) (act : Act)
            → acts (record { agg = None; vic = record { state = p.vic.state; act = Some own }; after = p.after; answer = p.answer }) (record { agg = None; vic = at.vic }) cells x act
            ≡ (eqb at.vic x && same_act own act) && (same_bit (cell cells at.vic) p.vic.state && true)
        acts_alone cells x act = ap (λ b. b && (same_bit (cell cells at.vic) p.vic.state && true)) (or_none (eqb at.vic x && same_act own act))
    go None (Some a) own one some f = absurd f
    go (Some sense) None own one some f = absurd f
    go (Some sense) (Some a) (Some own) one some f = record {
      place = at.vic;
      own = own;
      acts_at = acts_beside;
      acts_on = refl;
      acts_are = ap (λ o. own ∷ one_act o) idle;
      holds = λ cells. swap (same_bit (cell cells a) sense.state) (same_bit (cell cells at.vic) p.vic.state);
      victim = refl;
    }
      where
        idle : sense.act ≡ None
        idle = no_act sense.act (λ e. (let none : ◌≡◌ {A = Option Act} (Some own) None = one e in cc))

        acts_beside : (cells : List Bool) (x : ℕ) (act : Act)
            → acts (record { agg = Some sense; vic = record { state = p.vic.state; act = Some own }; after = p.after; answer = p.answer }) (record { agg = Some a; vic = at.vic }) cells x act
            ≡ (eqb at.vic x && same_act own act) && (same_bit (cell cells at.vic) p.vic.state && same_bit (cell cells a) sense.state)
        acts_beside cells x act =
            let holds : Bool = same_bit (cell cells at.vic) p.vic.state && same_bit (cell cells a) sense.state in
            ap (λ o. ((eqb at.vic x && same_act own act) || (eqb a x && has_this_act o act)) && holds) idle
            ∙ ap (λ b. ((eqb at.vic x && same_act own act) || b) && holds) (and_none (eqb a x)) ∙ ap (λ b. b && holds) (or_none (eqb at.vic x && same_act own act))
    go (Some sense) (Some a) None one some f = by sense.act refl some
      where
        by : (o : Option Act) → sense.act ≡ o → is_some sense.act ≡ true
            → IsOne (record { agg = Some sense; vic = record { state = p.vic.state; act = None }; after = p.after; answer = p.answer }) (record { agg = Some a; vic = at.vic })
        by None e there = (let clash : false ≡ true = sym (ap (λ (o : Option Act). is_some o) e) ∙ there in cc)
        by (Some own) e there = record {
          place = a;
          own = own;
          acts_at = acts_other;
          acts_on = refl;
          acts_are = ap one_act e;
          holds = λ cells. swap (same_bit (cell cells a) sense.state) (same_bit (cell cells at.vic) p.vic.state);
          victim = refl;
        }
          where
            acts_other : (cells : List Bool) (x : ℕ) (act : Act)
                → acts (record { agg = Some sense; vic = record { state = p.vic.state; act = None }; after = p.after; answer = p.answer }) (record { agg = Some a; vic = at.vic }) cells x act
                ≡ (eqb a x && same_act own act) && (same_bit (cell cells at.vic) p.vic.state && same_bit (cell cells a) sense.state)
            acts_other cells x act =
                let holds : Bool = same_bit (cell cells at.vic) p.vic.state && same_bit (cell cells a) sense.state in
                ap (λ b. (b || (eqb a x && has_this_act sense.act act)) && holds) (and_none (eqb at.vic x)) ∙ ap (λ o. (eqb a x && has_this_act o act) && holds) e

-- ---- a step of both

record IsLast (act own : Act) (holds : Bool) (done : List Bool) : Type 0 where
  rest : List Bool
  is : done_by act holds (own ∷ []) done ≡ (holds && same_act act own) ∷ rest
  size : length rest ≡ 15

one_done : (act own : Act) (holds : Bool) (done : List Bool) → length done ≡ 16 → IsLast act own holds done
one_done act own holds [] e = absurd (omega arith)
one_done act own holds (d ∷ rest) e = record { rest = rest; is = refl; size = omega arith }

length-kept : (plain : Bool) (done : List Bool) → length done ≡ 16 → length (kept_where plain done) ≡ 16
length-kept true done e = e
length-kept false done e = refl

never_closes : (p : Primitive) (at : Places) (cells : List Bool) → has_act p ≡ true → close_of p at cells ≡ cells
unfolding close_of
never_closes p at cells h = ap (λ (b : Bool). cond (not b && static_hold p at cells) (slice_set cells at.vic p.after) cells) h

module _ (p : Primitive) (at : Places) (some : has_act p ≡ true) (stays_so : is_retention p ≡ false) (both : IsOne p at) where
  abbrev q : SequencePrimitive
  q = sequence_of_static p

  abbrev cells_at : List ℕ
  cells_at = addresses_of at

  record Same (h : Held) (cells : List Bool) : Type 0 where
    cells_are : h.cells ≡ cells
    sixteen : length h.done ≡ 16

  module _ (h : Held) (cells : List Bool) (same : Same h cells) (x : ℕ) (act : Act) where
    abbrev own : Bool
    own = eqb both.place x

    abbrev holds : Bool
    holds = static_hold p at cells

    abbrev one : IsLast act both.own holds h.done
    one = one_done act both.own holds h.done same.sixteen

    abbrev list : List Bool
    list = (holds && same_act act both.own) ∷ one.rest

    begun_is : begun q cells_at h x act ≡ cond own list nothing
    begun_is =
        ap (λ y. cond (eqb y x) (done_by act (states_hold q.states cells_at h.cells) q.acts h.done) nothing) both.acts_on
        ∙ ap (λ b. cond own (done_by act b q.acts h.done) nothing) (both.holds h.cells ∙ ap (static_hold p at) same.cells_are)
        ∙ ap (λ l. cond own (done_by act holds l h.done) nothing) both.acts_are ∙ ap (λ l. cond own l nothing) one.is

    turn : (b t u : Bool) → is_whole q (cond b ((t && u) ∷ one.rest) nothing) ≡ ((b && u) && t)
    turn true true true = ap (λ l. get_or (true ∷ one.rest) (length l - 1) false) both.acts_are
    turn true true false = ap (λ l. get_or (false ∷ one.rest) (length l - 1) false) both.acts_are
    turn true false true = ap (λ l. get_or (false ∷ one.rest) (length l - 1) false) both.acts_are
    turn true false false = ap (λ l. get_or (false ∷ one.rest) (length l - 1) false) both.acts_are
    turn false t u = ap (λ l. get_or nothing (length l - 1) false) both.acts_are

    hit_same : is_whole q (begun q cells_at h x act) ≡ acts p at cells x act
    hit_same =
        ap (is_whole q) begun_is ∙ turn own holds (same_act act both.own) ∙ ap (λ b. (own && b) && holds) (same_turned act both.own) ∙ sym (both.acts_at cells x act)

    cells_same : seq_cells q cells_at h x act ≡ step_cells p at cells x act
    unfolding seq_cells step_cells
    cells_same =
        ap (λ b. set_where b (plain_cells h.cells x act) (victim_at q cells_at) p.after) hit_same
        ∙ ap (λ c. set_where (acts p at cells x act) (plain_cells c x act) (victim_at q cells_at) p.after) same.cells_are
        ∙ ap (λ v. set_where (acts p at cells x act) (plain_cells cells x act) v p.after) both.victim
        ∙ sym (never_closes p at (acted p at cells x act) some)

    answer_same : seq_answer q cells_at h x act ≡ step_answer p at cells x act
    unfolding seq_answer step_answer
    answer_same =
        let told : Bool → List Bool → Option Bool = λ b c. cond b (answer_or p.answer (plain_answer c x act)) (plain_answer c x act) in
        ap (λ b. told b h.cells) hit_same ∙ ap (told (acts p at cells x act)) same.cells_are

    size_kept : (plain : Bool) → length (kept_where plain (cond own list nothing)) ≡ 16
    size_kept plain = length-kept plain (cond own list nothing) (go own)
      where
        go : (b : Bool) → length (cond b list nothing) ≡ 16
        go true = let size = one.size in omega arith
        go false = refl

    step_same : Same (seq_step q cells_at h x act) (step_cells p at cells x act)
    unfolding seq_step
    step_same = record {
      cells_are = cells_same;
      sixteen =
          let plain : Bool = same_bit (cell (seq_cells q cells_at h x act) x) (left_by (cell h.cells x) act) in
          ap (λ l. length (kept_where plain l)) begun_is ∙ size_kept plain;
    }

  pause_same : (cells : List Bool) → cells ≡ pause_cells p at cells
  unfolding pause_cells
  pause_same cells =
      sym (never_closes p at (cond (is_retention p && static_hold p at cells) (slice_set cells at.vic p.after) cells) some
      ∙ ap (λ (b : Bool). cond (b && static_hold p at cells) (slice_set cells at.vic p.after) cells) stays_so)

  stays : (h : Held) (cells : List Bool) (step : MarchStep) → Same h cells → Same (held_after q cells_at h step) (after_step p at cells step)
  stays h cells (pausing e) same = record { cells_are = same.cells_are ∙ pause_same cells; sixteen = refl }
  stays h cells (visiting v) same = step_same h cells same v.address (act_of v.op)

  caught_same : (content : List Bool) (steps : List MarchStep)
      → SomeDiffersBy (held_after q cells_at) (is_wrong_visit q cells_at) (held_as content nothing) steps ↔ SomeDiffersBy (after_step p at) (is_wrong_at p at) (close_of p at content) steps
  caught_same content steps =
      both_differ (held_after q cells_at) (is_wrong_visit q cells_at) (after_step p at) (is_wrong_at p at) Same stays
      (λ h cells v same. ap (is_wrong_of v.op) (answer_same h cells same v.address (act_of v.op))) (held_as content nothing) (close_of p at content) steps
      (record { cells_are = sym (never_closes p at content some); sixteen = refl })

pub as_static : AsStatic
unfolding AsStatic
as_static p at march directions content is some stays_so fits =
    caught_same p at some stays_so (is_one p at (length content) is some fits) content (visits march directions (length content))
