-- An operation on the words is an act on each cell of a lane through the places of the instance.
use Rattle.std.proofs.Common.{◌≡◌, ◌≢◌, ℕ, Bool, true, false, not, ◌&&◌, ◌||◌, eqb, Option, Some, None, is_some, IsSome, List, refl, ap, sym, ◌∙◌, ⊎_elim}
use Rattle.std.specs.Prelude.{if◌then◌else◌, ◌==◌, slice_set, slice_index}
use Rattle.std.proofs.lemmas.Bool.Decides.{eqb_tells}
use Rattle.fault_core.specs.declared.primitive.Act.{Act}
use Rattle.fault_core.specs.declared.primitive.Act.TheVariants.{Write, Read}
use Rattle.fault_core.specs.declared.primitive.Sense.{Sense}
use Rattle.fault_core.specs.declared.cells.Places.{Places}
use Rattle.fault_core.specs.Primitive.{Primitive, IsPrimitive, same_bit, agg_has_act, is_retention}
use Rattle.fault_core.specs.Cells.{cell, agg_holds, states_hold, has_act, close_of, has_this_act, agg_acts, acts, plain_cells, answer_or, acted, step_cells, step_answer, pause_cells}
use Rattle.word_march.specs.declared.operations.WordOp.{WordOp}
use Rattle.word_device.specs.declared.device.BitPlace.{BitPlace}
use Rattle.word_device.specs.declared.device.Planted.{Planted}
use Rattle.word_device.specs.Chips.{has_bit, with_bit, bit_in, with_bit_in, agg_bit_holds, bits_hold, closed_words, act_on, falls_on, falls_on_agg, matches, plain_words, plain_reply, acted_words, answered, words_after, paused_words, reply_to}
use Rattle.word_device.proofs.Lanes.{lane, lane_cell, lane_set, with_bit_same}

-- the words of the instance, as places in the lane
abbrev pub word_at : Option BitPlace → Option ℕ
word_at None = None
word_at (Some p) = Some p.word

abbrev pub spots : Planted → Places
spots i = record { agg = word_at i.agg; vic = i.vic.word }

-- the lane goes through the places of the instance
abbrev pub ThroughAgg : Option BitPlace → (ℕ → ℕ) → Type 0
ThroughAgg None at = Unit {0}
ThroughAgg (Some p) at = at p.word ≡ p.bit

pub record Through (i : Planted) (at : ℕ → ℕ) : Type 0 where
  pub vic : at i.vic.word ≡ i.vic.bit
  pub agg : ThroughAgg i.agg at

lane_place : (at : ℕ → ℕ) (ws : List ℕ) (p : BitPlace) → at p.word ≡ p.bit → cell (lane at ws) p.word ≡ bit_in ws p
lane_place at ws p e = lane_cell at ws p.word ∙ ap (has_bit (slice_index ws p.word)) e

pub lane_with_bit : (at : ℕ → ℕ) (ws : List ℕ) (p : BitPlace) (b : Bool) → at p.word ≡ p.bit → lane at (with_bit_in ws p b) ≡ slice_set (lane at ws) p.word b
lane_with_bit at ws p b e =
    let w : ℕ = with_bit (slice_index ws p.word) p.bit b in
    lane_set at ws p.word w ∙ ap (slice_set (lane at ws) p.word) (ap (has_bit w) e ∙ with_bit_same (slice_index ws p.word) p.bit b)

pub lane_if : (at : ℕ → ℕ) (b : Bool) (xs ys : List ℕ) (cs ds : List Bool) → lane at xs ≡ cs → lane at ys ≡ ds
    → lane at (if b then xs else ys) ≡ (if b then cs else ds)
lane_if at true xs ys cs ds ex ey = ex
lane_if at false xs ys cs ds ex ey = ey

agg_state : (agg : Option Sense) (place : Option BitPlace) (at : ℕ → ℕ) (ws : List ℕ) → ThroughAgg place at
    → agg_bit_holds agg place ws ≡ agg_holds agg (word_at place) (lane at ws)
agg_state None place at ws e = refl
agg_state (Some sense) None at ws e = refl
agg_state (Some sense) (Some p) at ws e = ap (λ b. same_bit b sense.state) (sym (lane_place at ws p e))

pub states_same : (i : Planted) (at : ℕ → ℕ) (ws : List ℕ) → Through i at → bits_hold i ws ≡ states_hold i.prim (spots i) (lane at ws)
states_same i at ws t =
    ap (λ b. same_bit b i.prim.vic.state && agg_bit_holds i.prim.agg i.agg ws) (sym (lane_place at ws i.vic t.vic))
    ∙ ap (λ b. same_bit (cell (lane at ws) i.vic.word) i.prim.vic.state && b) (agg_state i.prim.agg i.agg at ws t.agg)

pub lane_closed : (i : Planted) (at : ℕ → ℕ) (ws : List ℕ) → Through i at → lane at (closed_words i ws) ≡ close_of i.prim (spots i) (lane at ws)
unfolding closed_words close_of
lane_closed i at ws t =
    ap (λ b. lane at (if not (has_act i.prim) && b then with_bit_in ws i.vic i.prim.after else ws)) (states_same i at ws t)
    ∙ lane_if at (not (has_act i.prim) && states_hold i.prim (spots i) (lane at ws)) (with_bit_in ws i.vic i.prim.after) ws
    (slice_set (lane at ws) i.vic.word i.prim.after) (lane at ws) (lane_with_bit at ws i.vic i.prim.after t.vic) refl

falls_same : (act : Option Act) (p : BitPlace) (at : ℕ → ℕ) (o : WordOp) → at p.word ≡ p.bit
    → falls_on act p o ≡ (p.word == o.index) && has_this_act act (act_on o (at o.index))
falls_same act p at o e =
    ⊎_elim
    (λ (h : (eqb p.word o.index ≡ true) × (p.word ≡ o.index)).
    ap (λ j. (p.word == o.index) && has_this_act act (act_on o j)) (sym e ∙ ap at h.1))
    (λ (h : (eqb p.word o.index ≡ false) × (p.word ≢ o.index)).
    ap (λ b. b && has_this_act act (act_on o p.bit)) h.0 ∙ sym (ap (λ b. b && has_this_act act (act_on o (at o.index))) h.0))
    (eqb_tells p.word o.index)

agg_falls_same : (agg : Option Sense) (place : Option BitPlace) (at : ℕ → ℕ) (o : WordOp) → ThroughAgg place at
    → falls_on_agg agg place o ≡ agg_acts agg (word_at place) o.index (act_on o (at o.index))
agg_falls_same None place at o e = refl
agg_falls_same (Some sense) None at o e = refl
agg_falls_same (Some sense) (Some p) at o e = falls_same sense.act p at o e

pub matches_same : (i : Planted) (at : ℕ → ℕ) (ws : List ℕ) (o : WordOp) → Through i at
    → matches i ws o ≡ acts i.prim (spots i) (lane at ws) o.index (act_on o (at o.index))
unfolding matches acts
matches_same i at ws o t =
    let act : Act = act_on o (at o.index) in
    ap (λ b. (b || falls_on_agg i.prim.agg i.agg o) && bits_hold i ws) (falls_same i.prim.vic.act i.vic at o t.vic)
    ∙ ap (λ b. (((i.vic.word == o.index) && has_this_act i.prim.vic.act act) || b) && bits_hold i ws) (agg_falls_same i.prim.agg i.agg at o t.agg)
    ∙ ap (λ b. (((i.vic.word == o.index) && has_this_act i.prim.vic.act act) || agg_acts i.prim.agg (word_at i.agg) o.index act) && b) (states_same i at ws t)

lane_plain : (at : ℕ → ℕ) (ws : List ℕ) (o : WordOp) → lane at (plain_words ws o) ≡ plain_cells (lane at ws) o.index (act_on o (at o.index))
lane_plain at ws o = go o.write
  where
    go : (write : Bool) → lane at (if write then slice_set ws o.index o.word else ws)
        ≡ plain_cells (lane at ws) o.index (if write then Write (has_bit o.word (at o.index)) else Read)
    go true = lane_set at ws o.index o.word
    go false = refl

-- what is left of a place in the plain words of a lane
lane_acted : (i : Planted) (at : ℕ → ℕ) (ws : List ℕ) (o : WordOp) → Through i at
    → lane at (acted_words i ws o) ≡ acted i.prim (spots i) (lane at ws) o.index (act_on o (at o.index))
lane_acted i at ws o t =
    let plain : List ℕ = plain_words ws o in
    let cells : List Bool = plain_cells (lane at ws) o.index (act_on o (at o.index)) in
    ap (λ b. lane at (if b then with_bit_in plain i.vic i.prim.after else plain)) (matches_same i at ws o t)
    ∙ lane_if at (acts i.prim (spots i) (lane at ws) o.index (act_on o (at o.index))) (with_bit_in plain i.vic i.prim.after) plain
    (slice_set cells i.vic.word i.prim.after) cells
    (lane_with_bit at plain i.vic i.prim.after t.vic ∙ ap (λ l. slice_set l i.vic.word i.prim.after) (lane_plain at ws o)) (lane_plain at ws o)

-- the words step as the cells of the lane
pub lane_step : (i : Planted) (at : ℕ → ℕ) (ws : List ℕ) (o : WordOp) → Through i at
    → lane at (words_after (Some i) ws o) ≡ step_cells i.prim (spots i) (lane at ws) o.index (act_on o (at o.index))
unfolding words_after step_cells
lane_step i at ws o t = lane_closed i at (acted_words i ws o) t ∙ ap (close_of i.prim (spots i)) (lane_acted i at ws o t)

-- a pause of the words is a pause of the lane
pub lane_pause : (i : Planted) (at : ℕ → ℕ) (ws : List ℕ) → Through i at → lane at (paused_words i ws) ≡ pause_cells i.prim (spots i) (lane at ws)
unfolding paused_words pause_cells
lane_pause i at ws t =
    let own : Bool = is_retention i.prim in
    let rested : List ℕ = if own && bits_hold i ws then with_bit_in ws i.vic i.prim.after else ws in
    lane_closed i at rested t
    ∙ ap (λ b. close_of i.prim (spots i) (lane at (if own && b then with_bit_in ws i.vic i.prim.after else ws))) (states_same i at ws t)
    ∙ ap (close_of i.prim (spots i))
    (lane_if at (own && states_hold i.prim (spots i) (lane at ws)) (with_bit_in ws i.vic i.prim.after) ws
    (slice_set (lane at ws) i.vic.word i.prim.after) (lane at ws) (lane_with_bit at ws i.vic i.prim.after t.vic) refl)

-- a primitive that answers acts by a read of its victim alone
and-false : (b : Bool) → (b && false) ≡ false
and-false true = refl
and-false false = refl

none_here : {X : Type 0} (o : Option X) → is_some o ≡ false → o ≡ None
none_here None e = refl
none_here (Some x) e = cc

idle_agg : (p : Primitive) → IsPrimitive p → p.vic.act ≡ Some Read → agg_has_act p.agg ≡ false
idle_agg p is read = at (agg_has_act p.agg) refl
  where
    at : (b : Bool) → agg_has_act p.agg ≡ b → agg_has_act p.agg ≡ false
    at true e = let none : p.vic.act ≡ None = is.one_act e in cc
    at false e = e

agg_falls_not : (agg : Option Sense) (place : Option BitPlace) (o : WordOp) → agg_has_act agg ≡ false → falls_on_agg agg place o ≡ false
agg_falls_not None place o e = refl
agg_falls_not (Some sense) None o e = refl
agg_falls_not (Some sense) (Some p) o e = ap (λ act. falls_on act p o) (none_here sense.act e) ∙ and-false (p.word == o.index)

left_true : (a b c : Bool) → (a || b) && c ≡ true → b ≡ false → a ≡ true
left_true true b c h e = refl
left_true false true c h e = cc
left_true false false c h e = cc

first_true : (a b : Bool) → a && b ≡ true → a ≡ true
first_true true b h = refl
first_true false b h = cc

-- where an answering primitive matches, the operation is on its victim's word
on_victim : (i : Planted) (ws : List ℕ) (o : WordOp) (r : Bool) → IsPrimitive i.prim → i.prim.answer ≡ Some r → matches i ws o ≡ true → i.vic.word ≡ o.index
unfolding matches
on_victim i ws o r is answer m =
    let some : IsSome i.prim.answer = ap is_some answer in
    let idle : falls_on_agg i.prim.agg i.agg o ≡ false = agg_falls_not i.prim.agg i.agg o (idle_agg i.prim is (is.answered.0 some)) in
    let hit : falls_on i.prim.vic.act i.vic o ≡ true = left_true (falls_on i.prim.vic.act i.vic o) (falls_on_agg i.prim.agg i.agg o) (bits_hold i ws) m idle in
    let same : eqb i.vic.word o.index ≡ true = first_true (eqb i.vic.word o.index) (has_this_act i.prim.vic.act (act_on o i.vic.bit)) hit in
    ⊎_elim
    (λ (h : (eqb i.vic.word o.index ≡ true) × (i.vic.word ≡ o.index)). h.1)
    (λ (h : (eqb i.vic.word o.index ≡ false) × (i.vic.word ≢ o.index)). cc)
    (eqb_tells i.vic.word o.index)

-- the reply to a read shows in the lane what the read of the cell answers
pub lane_reply : (i : Planted) (at : ℕ → ℕ) (ws : List ℕ) (o : WordOp) → Through i at → IsPrimitive i.prim → o.write ≡ false
    → step_answer i.prim (spots i) (lane at ws) o.index Read ≡ Some (has_bit (reply_to (Some i) ws o) (at o.index))
unfolding reply_to step_answer
lane_reply i at ws o t is read =
    let w : ℕ = slice_index ws o.index in
    let plain : plain_reply ws o ≡ w = ap (λ b. if b then 0 else w) read in
    let act : act_on o (at o.index) ≡ Read = ap (λ b. if b then Write (has_bit o.word (at o.index)) else Read) read in
    let same : acts i.prim (spots i) (lane at ws) o.index Read ≡ matches i ws o =
    sym (ap (acts i.prim (spots i) (lane at ws) o.index) act) ∙ sym (matches_same i at ws o t) in
    let read_cell : cell (lane at ws) o.index ≡ has_bit w (at o.index) = lane_cell at ws o.index in
    ap (λ b. if b then answer_or i.prim.answer (Some (cell (lane at ws) o.index)) else Some (cell (lane at ws) o.index)) same
    ∙ ap (λ c. if matches i ws o then answer_or i.prim.answer (Some c) else Some c) read_cell
    ∙ go (matches i ws o) refl i.prim.answer refl
    ∙ ap (λ p. Some (has_bit (if matches i ws o then answered i.prim.answer i.vic p else p) (at o.index))) (sym plain)
  where
    go : (b : Bool) → matches i ws o ≡ b → (answer : Option Bool) → i.prim.answer ≡ answer
        → (if b then answer_or answer (Some (has_bit (slice_index ws o.index) (at o.index))) else Some (has_bit (slice_index ws o.index) (at o.index)))
        ≡ Some (has_bit (if b then answered answer i.vic (slice_index ws o.index) else slice_index ws o.index) (at o.index))
    go false m answer e = refl
    go true m None e = refl
    go true m (Some r) e =
        let place : at o.index ≡ i.vic.bit = ap at (sym (on_victim i ws o r is e m)) ∙ t.vic in
        ap Some (sym (ap (has_bit (with_bit (slice_index ws o.index) i.vic.bit r)) place ∙ with_bit_same (slice_index ws o.index) i.vic.bit r))
