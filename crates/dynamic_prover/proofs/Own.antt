-- An array, seen from the two cells of its instance: what a step on any cell does to them.
use Rattle.std.proofs.Common.{◌≡◌, ◌≢◌, ◌<◌, ℕ, Bool, true, false, ◌&&◌, Option, Some, None, List, length, refl, ap, sym, ◌∙◌}
use Rattle.std.specs.Prelude.{if◌then◌else◌, ◌==◌, slice_set}
use Rattle.std.specs.Option.{option_map}
use Rattle.std.proofs.lemmas.Bool.{eq-eqb, ne_eqb}
use Rattle.std.proofs.lemmas.List.{get_or-set_same, get_or-set_other}
use Rattle.fault_core.specs.declared.primitive.Act.{Act}
use Rattle.fault_core.specs.declared.primitive.Act.TheVariants.{Write, Read, Pause}
use Rattle.fault_core.specs.declared.cells.Places.{Places}
use Rattle.fault_core.specs.Primitive.{same_bit}
use Rattle.fault_core.specs.Cells.{cell, same_act, plain_cells, plain_answer, answer_or}
use Rattle.cell_machine.specs.declared.pair.Pair.{Pair}
use Rattle.cell_machine.specs.declared.pair.Side.{Side}
use Rattle.cell_machine.specs.declared.pair.Side.TheVariants.{A, V}
use Rattle.cell_machine.specs.Pairs.{pair_of, with_victim, bit_on, plain_pair, plain_reply}
use Rattle.cell_machine.specs.Seen.{pair_at, place_of}
use Rattle.cell_machine.proofs.Projection.{length-set_if, length-plain_cells, cell-set_if_other, cell-plain_cells_other}
use Rattle.dynamic_core.specs.declared.stepping.Actor.{Actor}
use Rattle.dynamic_core.specs.Primitive.{TwoActs, DynamicSense, DynamicPrimitive, left_by}
use Rattle.dynamic_core.specs.Dynamic.{actor_on, agg_actor, actor_or, actor_of, agg_state_holds, all_states_hold, Held, held_as, matches_of, arms_of, set_where, dyn_cells, dyn_step, dyn_answer}
use Rattle.dynamic_core.specs.Detecting.{FitsDynAgg, FitsDyn}
use Rattle.dynamic_prover.specs.declared.own_cells.OwnCells.{OwnCells}
use Rattle.dynamic_prover.specs.inner.Own.{own_as, OwnActor, own_actor_on, own_agg_actor, own_actor_or, own_actor_of, own_agg_holds, own_holds, same_side, own_matches, own_arms, pair_where, own_step, own_answer}

-- how an array looks from the two cells at a and v
abbrev pub own_of : ℕ → ℕ → Held → OwnCells
own_of a v h = own_as (pair_at h.cells a v) h.armed

abbrev pub placed : ℕ → ℕ → OwnActor → Actor
placed a v o = record { place = place_of a v o.on; state = o.state; first = o.acts.first; second = o.acts.second }

-- cell a is the aggressor's, or, without an aggressor, any other address, as one past the array
pub record About (p : DynamicPrimitive) (at : Places) (a n : ℕ) : Type 0 where
  pub actor : actor_of p at ≡ option_map (placed a at.vic) (own_actor_of p)
  pub holds : (cells : List Bool) → all_states_hold p at cells ≡ own_holds p (pair_at cells a at.vic)
  pub apart : a ≢ at.vic
  pub victim : at.vic < n

pub about : (p : DynamicPrimitive) (at : Places) (a n : ℕ) → FitsDyn p at n → a ≢ at.vic → ((b : ℕ) → at.agg ≡ Some b → b ≡ a) → About p at a n
about p at a n fits apart is = record {
  actor = parts p.vic.acts p.agg at.agg fits.aggressor is;
  holds = λ cells. ap (λ b. same_bit (cell cells at.vic) p.vic.state && b) (held p.agg at.agg fits.aggressor is cells);
  apart = apart;
  victim = fits.victim;
}
  where
    agg_acting : (x : ℕ) (state : Bool) (acts : Option TwoActs) → x ≡ a → actor_on x state acts ≡ option_map (placed a at.vic) (own_actor_on A state acts)
    agg_acting x state None e = refl
    agg_acting x state (Some acts) e = ap (λ (y : ℕ). actor_on y state (Some acts)) e

    parts : (acts : Option TwoActs) (agg : Option DynamicSense) (place : Option ℕ) → FitsDynAgg agg place at.vic n → ((b : ℕ) → place ≡ Some b → b ≡ a)
        → actor_or (actor_on at.vic p.vic.state acts) (agg_actor agg place)
        ≡ option_map (placed a at.vic) (own_actor_or (own_actor_on V p.vic.state acts) (own_agg_actor agg))
    parts (Some acts) agg place f e = refl
    parts None None None f e = refl
    parts None None (Some x) f e = absurd f
    parts None (Some sense) None f e = absurd f
    parts None (Some sense) (Some x) f e = agg_acting x sense.state sense.acts (e x refl)

    held : (agg : Option DynamicSense) (place : Option ℕ) → FitsDynAgg agg place at.vic n → ((b : ℕ) → place ≡ Some b → b ≡ a) → (cells : List Bool)
        → agg_state_holds agg place cells ≡ own_agg_holds agg (cell cells a)
    held None place f e cells = refl
    held (Some sense) None f e cells = absurd f
    held (Some sense) (Some x) f e cells = ap (λ y. same_bit (cell cells y) sense.state) (e x refl)

-- the tests of the places are the tests of the sides
side_test : (a v : ℕ) (o s : Side) → a ≢ v → (place_of a v o == place_of a v s) ≡ same_side o s
side_test a v A A ne = eq-eqb a a refl
side_test a v A V ne = ne_eqb a v ne
side_test a v V A ne = ne_eqb v a (λ e. ne (sym e))
side_test a v V V ne = eq-eqb v v refl

bit_test : (a v : ℕ) (o : Side) (cells : List Bool) → cell cells (place_of a v o) ≡ bit_on (pair_at cells a v) o
bit_test a v A cells = refl
bit_test a v V cells = refl

matches_seen : (a v : ℕ) → a ≢ v → (o : Option OwnActor) (armed : Bool) (s : Side) (act : Act)
    → matches_of (option_map (placed a v) o) armed (place_of a v s) act ≡ own_matches o armed s act
matches_seen a v ne None armed s act = refl
matches_seen a v ne (Some o) armed s act = ap (λ b. armed && (b && same_act act o.acts.second)) (side_test a v o.on s ne)

arms_seen : (a v : ℕ) → a ≢ v → (o : Option OwnActor) (holds : Bool) (after : List Bool) (s : Side) (act : Act)
    → arms_of (option_map (placed a v) o) holds after (place_of a v s) act ≡ own_arms o holds (pair_at after a v) s act
arms_seen a v ne None holds after s act = refl
arms_seen a v ne (Some o) holds after s act =
    ap (λ b. (b && same_act act o.acts.first) && (holds && same_bit (cell after (place_of a v o.on)) (left_by o.state o.acts.first))) (side_test a v o.on s ne)
    ∙ ap (λ b. (same_side o.on s && same_act act o.acts.first) && (holds && same_bit b (left_by o.state o.acts.first))) (bit_test a v o.on after)

plain_seen : (cells : List Bool) (a v : ℕ) (s : Side) (act : Act) → a ≢ v → place_of a v s < length cells
    → pair_at (plain_cells cells (place_of a v s) act) a v ≡ plain_pair (pair_at cells a v) s act
plain_seen cells a v s Read ne within = refl
plain_seen cells a v s Pause ne within = refl
plain_seen cells a v A (Write bit) ne within =
    ap (λ x. pair_of x (cell (slice_set cells a bit) v)) (get_or-set_same cells a bit false within)
    ∙ ap (pair_of bit) (get_or-set_other cells a v bit false (λ e. ne (sym e)))
plain_seen cells a v V (Write bit) ne within =
    ap (λ x. pair_of x (cell (slice_set cells v bit) v)) (get_or-set_other cells v a bit false ne)
    ∙ ap (pair_of (cell cells a)) (get_or-set_same cells v bit false within)

after_seen : (hit : Bool) (cells : List Bool) (a v : ℕ) (bit : Bool) → a ≢ v → v < length cells
    → pair_at (set_where hit cells v bit) a v ≡ (if hit then with_victim (pair_at cells a v) bit else pair_at cells a v)
after_seen true cells a v bit ne within =
    ap (λ x. pair_of x (cell (slice_set cells v bit) v)) (get_or-set_other cells v a bit false ne)
    ∙ ap (pair_of (cell cells a)) (get_or-set_same cells v bit false within)
after_seen false cells a v bit ne within = refl

pub length-dyn_step : (p : DynamicPrimitive) (at : Places) (h : Held) (x : ℕ) (act : Act) → length (dyn_step p at h x act).cells ≡ length h.cells
unfolding dyn_step dyn_cells
length-dyn_step p at h x act =
    length-set_if (matches_of (actor_of p at) h.armed x act) (plain_cells h.cells x act) at.vic p.after ∙ length-plain_cells h.cells x act

reply_seen : (cells : List Bool) (a v : ℕ) (s : Side) (act : Act) → plain_answer cells (place_of a v s) act ≡ plain_reply (pair_at cells a v) s act
reply_seen cells a v s (Write bit) = refl
reply_seen cells a v s Pause = refl
reply_seen cells a v A Read = refl
reply_seen cells a v V Read = refl

-- an act on one of the two cells
matched : (p : DynamicPrimitive) (at : Places) (a n : ℕ) → About p at a n → (armed : Bool) (s : Side) (act : Act)
    → matches_of (actor_of p at) armed (place_of a at.vic s) act ≡ own_matches (own_actor_of p) armed s act
matched p at a n ab armed s act =
    ap (λ o. matches_of o armed (place_of a at.vic s) act) ab.actor ∙ matches_seen a at.vic ab.apart (own_actor_of p) armed s act

pub answer_seen : (p : DynamicPrimitive) (at : Places) (a n : ℕ) → About p at a n → (h : Held) (s : Side) (act : Act)
    → dyn_answer p at h (place_of a at.vic s) act ≡ own_answer p (own_of a at.vic h) s act
unfolding dyn_answer
answer_seen p at a n ab h s act =
    ap (λ b. if b then answer_or p.answer (plain_answer h.cells (place_of a at.vic s) act) else plain_answer h.cells (place_of a at.vic s) act) (matched p at a n ab h.armed s act)
    ∙ ap (λ r. if own_matches (own_actor_of p) h.armed s act then answer_or p.answer r else r) (reply_seen h.cells a at.vic s act)

cells_seen : (p : DynamicPrimitive) (at : Places) (a n : ℕ) → About p at a n → (h : Held) (s : Side) (act : Act) → place_of a at.vic s < n → length h.cells ≡ n
    → pair_at (dyn_cells p at h (place_of a at.vic s) act) a at.vic ≡ pair_where p (own_matches (own_actor_of p) h.armed s act) (pair_at h.cells a at.vic) s act
unfolding dyn_cells
cells_seen p at a n ab h s act within size =
    let x : ℕ = place_of a at.vic s in
    let inside : at.vic < length (plain_cells h.cells x act) = rw (length-plain_cells h.cells x act, size) ab.victim in
    let here : x < length h.cells = rw size within in
    ap (λ b. pair_at (set_where b (plain_cells h.cells x act) at.vic p.after) a at.vic) (matched p at a n ab h.armed s act)
    ∙ after_seen (own_matches (own_actor_of p) h.armed s act) (plain_cells h.cells x act) a at.vic p.after ab.apart inside
    ∙ ap (λ q. if own_matches (own_actor_of p) h.armed s act then with_victim q p.after else q) (plain_seen h.cells a at.vic s act ab.apart here)

own_equal : (q r : Pair) (b c : Bool) → q ≡ r → b ≡ c → own_as q b ≡ own_as r c
own_equal q r b c e f = ap (λ x. own_as x b) e ∙ ap (own_as r) f

pub step_seen : (p : DynamicPrimitive) (at : Places) (a n : ℕ) → About p at a n → (h : Held) (s : Side) (act : Act) → place_of a at.vic s < n → length h.cells ≡ n
    → own_of a at.vic (dyn_step p at h (place_of a at.vic s) act) ≡ own_step p (own_of a at.vic h) s act
unfolding dyn_step
step_seen p at a n ab h s act within size =
    let x : ℕ = place_of a at.vic s in
    let cells = cells_seen p at a n ab h s act within size in
    own_equal _ _ _ _ cells
    (ap (λ o. arms_of o (all_states_hold p at h.cells) (dyn_cells p at h x act) x act) ab.actor
    ∙ arms_seen a at.vic ab.apart (own_actor_of p) (all_states_hold p at h.cells) (dyn_cells p at h x act) s act
    ∙ ap (λ b. own_arms (own_actor_of p) b (pair_at (dyn_cells p at h x act) a at.vic) s act) (ab.holds h.cells)
    ∙ ap (λ q. own_arms (own_actor_of p) (own_holds p (pair_at h.cells a at.vic)) q s act) cells)

-- each other cell stays
pub others_stay : (p : DynamicPrimitive) (at : Places) (h : Held) (x : ℕ) (act : Act) (y : ℕ) → y ≢ x → y ≢ at.vic → cell (dyn_step p at h x act).cells y ≡ cell h.cells y
unfolding dyn_step dyn_cells
others_stay p at h x act y ne off =
    cell-set_if_other (matches_of (actor_of p at) h.armed x act) (plain_cells h.cells x act) at.vic y p.after off ∙ cell-plain_cells_other h.cells x act y ne

-- an act on another cell: its plain part, and nothing is armed
not_placed : (a v x : ℕ) (o : Side) → x ≢ a → x ≢ v → (place_of a v o == x) ≡ false
not_placed a v x A xa xv = ne_eqb a x (λ e. xa (sym e))
not_placed a v x V xa xv = ne_eqb v x (λ e. xv (sym e))

and_false : (b : Bool) → (b && false) ≡ false
and_false true = refl
and_false false = refl

no_match : (a v x : ℕ) → x ≢ a → x ≢ v → (o : Option OwnActor) (armed : Bool) (act : Act) → matches_of (option_map (placed a v) o) armed x act ≡ false
no_match a v x xa xv None armed act = refl
no_match a v x xa xv (Some o) armed act = ap (λ b. armed && (b && same_act act o.acts.second)) (not_placed a v x o.on xa xv) ∙ and_false armed

no_arms : (a v x : ℕ) → x ≢ a → x ≢ v → (o : Option OwnActor) (holds : Bool) (after : List Bool) (act : Act) → arms_of (option_map (placed a v) o) holds after x act ≡ false
no_arms a v x xa xv None holds after act = refl
no_arms a v x xa xv (Some o) holds after act =
    ap (λ b. (b && same_act act o.acts.first) && (holds && same_bit (cell after (place_of a v o.on)) (left_by o.state o.acts.first))) (not_placed a v x o.on xa xv)

unmatched : (p : DynamicPrimitive) (at : Places) (a n : ℕ) → About p at a n → (armed : Bool) (x : ℕ) (act : Act) → x ≢ a → x ≢ at.vic
    → matches_of (actor_of p at) armed x act ≡ false
unmatched p at a n ab armed x act xa xv = ap (λ o. matches_of o armed x act) ab.actor ∙ no_match a at.vic x xa xv (own_actor_of p) armed act

pub other_answer : (p : DynamicPrimitive) (at : Places) (a n : ℕ) → About p at a n → (h : Held) (x : ℕ) (act : Act) → x ≢ a → x ≢ at.vic
    → dyn_answer p at h x act ≡ plain_answer h.cells x act
unfolding dyn_answer
other_answer p at a n ab h x act xa xv =
    ap (λ b. if b then answer_or p.answer (plain_answer h.cells x act) else plain_answer h.cells x act) (unmatched p at a n ab h.armed x act xa xv)

other_cells : (p : DynamicPrimitive) (at : Places) (a n : ℕ) → About p at a n → (h : Held) (x : ℕ) (act : Act) → x ≢ a → x ≢ at.vic
    → dyn_cells p at h x act ≡ plain_cells h.cells x act
unfolding dyn_cells
other_cells p at a n ab h x act xa xv =
    ap (λ b. set_where b (plain_cells h.cells x act) at.vic p.after) (unmatched p at a n ab h.armed x act xa xv)

abbrev pub only_plain : Held → ℕ → Act → Held
only_plain h x act = held_as (plain_cells h.cells x act) false

pub other_step : (p : DynamicPrimitive) (at : Places) (a n : ℕ) → About p at a n → (h : Held) (x : ℕ) (act : Act) → x ≢ a → x ≢ at.vic
    → dyn_step p at h x act ≡ only_plain h x act
unfolding dyn_step
other_step p at a n ab h x act xa xv =
    ap (λ c. held_as c (arms_of (actor_of p at) (all_states_hold p at h.cells) (dyn_cells p at h x act) x act)) (other_cells p at a n ab h x act xa xv)
    ∙ ap (held_as (plain_cells h.cells x act))
    (ap (λ o. arms_of o (all_states_hold p at h.cells) (dyn_cells p at h x act) x act) ab.actor
    ∙ no_arms a at.vic x xa xv (own_actor_of p) (all_states_hold p at h.cells) (dyn_cells p at h x act) act)
