-- A planted instance in the run of the background 0.
use Rattle.std.proofs.Common.{◌≡◌, ◌≢◌, ◌-◌, ◌<◌, ◌^◌, ℕ, zero, suc, Bool, true, false, cond, eqb, Option, Some, None, IsSome, List, [], ◌∷◌, ◌++◌, length, map, refl, ap, sym, subst, ◌∙◌, ⊎_elim, arith}
use Rattle.std.specs.Prelude.{if◌then◌else◌, slice_index_or, IsTrue, ◌&&◌, ◌==◌, ◌/◌, ◌%◌}
use Rattle.std.specs.List.{flat_map}
use Rattle.std.proofs.lemmas.Bool.{ne_eqb}
use Rattle.std.proofs.lemmas.Bool.Decides.{eqb_tells}
use Rattle.std.proofs.lemmas.Nat.Bits.{bit_at_ones, bit_at_cat_low}
use Rattle.std.proofs.lemmas.Nat.{shr_split}
use Rattle.std.specs.Int.{bit_at}
use Rattle.fault_core.specs.declared.primitive.Act.TheVariants.{Write, Read}
use Rattle.fault_core.specs.declared.primitive.Sense.{Sense}
use Rattle.fault_core.specs.Primitive.{IsPrimitive}
use Rattle.fault_core.specs.Cells.{close_of, step_cells, step_answer, FitsPlace, FitsAgg}
use Rattle.march_core.specs.declared.operation.Op.{Op}
use Rattle.march_core.specs.declared.operation.Op.TheVariants.{W0, W1, R0, R1}
use Rattle.march_core.specs.declared.operation.Order.{Order}
use Rattle.march_core.specs.declared.operation.Order.TheVariants.{Up, Down, Any}
use Rattle.march_core.specs.March.{MarchElement, order_of}
use Rattle.march_core.specs.Runs.{upward, up, is_write, data_value}
use Rattle.march_core.specs.Visits.{Visit, MarchStep, pausing, visiting, visits, allows, is_direction, miss_at}
use Rattle.march_core.specs.Operation.{is_wrong_of}
use Rattle.array_sim.specs.inner.Run.{run_of}
use Rattle.array_sim.specs.Run.{act_of}
use Rattle.array_sim.specs.Detection.{DetectsAt}
use Rattle.array_sim.proofs.Differing.{missed}
use Rattle.backgrounds.specs.Backgrounds.{word_of}
use Rattle.memory_desc.specs.Descriptions.{Description, IsMemory}
use Rattle.word_march.specs.declared.operations.WordOp.{WordOp}
use Rattle.word_march.specs.Commands.{word_op, word_step, run_in, word_steps}
use Rattle.word_device.specs.declared.device.BitPlace.{BitPlace}
use Rattle.word_device.specs.declared.device.Planted.{Planted}
use Rattle.word_device.specs.Chips.{has_bit, act_on, words_after, words_paused, closed_words, reply_to, FitsMemory, FitsAggPlace}
use Rattle.word_device.proofs.Lanes.{lane, length-lane, has_bit-zero}
use Rattle.word_device.proofs.Steps.{spots, word_at, Through, ThroughAgg, lane_closed, lane_step, lane_pause, lane_reply}
use Rattle.word_device.proofs.Core.{stepped, words_behind, replies, SomeReplyDiffers, length_stepped, closed_stepped}

-- the bits of a word without pattern
pub has_bit_solid : (bits j : ℕ) (v : Bool) → j < bits → has_bit (word_of 0 v bits) j ≡ v
unfolding has_bit
has_bit_solid bits j false h = has_bit-zero j
has_bit_solid bits j true h =
    let e : 2 ^ bits - 1 - 0 ≡ 2 ^ bits - 1 = omega arith in
    rw (e, bit_at_ones bits j h) refl

-- the low bits of a number
has_bit_low : (n bits j : ℕ) → j < bits → has_bit (n % 2 ^ bits) j ≡ has_bit n j
unfolding has_bit
has_bit_low n bits j h =
    ap (λ (b : ℕ). b == 1) (sym (bit_at_cat_low (n / 2 ^ bits) bits (n % 2 ^ bits) j h) ∙ ap (λ m. bit_at m j) (shr_split n bits))

act_solid : (bits j : ℕ) (v : Visit) → j < bits → act_on (word_op bits 0 v) j ≡ act_of v.op
act_solid bits j v h = go v.op
  where
    go : (op : Op) → (if is_write op then Write (has_bit (word_of 0 (data_value op) bits) j) else Read) ≡ act_of op
    go W0 = ap Write (has_bit_solid bits j false h)
    go W1 = ap Write (has_bit_solid bits j true h)
    go R0 = refl
    go R1 = refl

-- a wrong answer is that of a read, and isn't its data value
wrong_read : (op : Op) (answer : Option Bool) → is_wrong_of op answer ≡ true → (is_write op ≡ false) × (act_of op ≡ Read) × (answer ≢ Some (data_value op))
wrong_read W0 answer e = cc
wrong_read W1 answer e = cc
wrong_read R0 None e = (refl, refl, λ h. cc)
wrong_read R0 (Some true) e = (refl, refl, λ h. cc)
wrong_read R0 (Some false) e = cc
wrong_read R1 None e = (refl, refl, λ h. cc)
wrong_read R1 (Some false) e = (refl, refl, λ h. cc)
wrong_read R1 (Some true) e = cc

later : (bits : ℕ) (s : Option WordOp) (ss : List (Option WordOp)) (i : Option Planted) (ws : List ℕ) → SomeReplyDiffers bits ss (replies i (stepped i ws s) ss)
    → SomeReplyDiffers bits (s ∷ ss) (replies i ws (s ∷ ss))
later bits None ss i ws d =
    record { number = d.number; op = d.op; reply = d.reply; is_op = d.is_op; is_read = d.is_read; is_reply = d.is_reply; differs = d.differs }
later bits (Some o) ss i ws d =
    record { number = suc d.number; op = d.op; reply = d.reply; is_op = d.is_op; is_read = d.is_read; is_reply = d.is_reply; differs = d.differs }

-- where a cell's read differs, so does the reply of its word
pub caught_steps : (i : Planted) (at : ℕ → ℕ) (bits : ℕ) → Through i at → ((k : ℕ) → at k < bits) → IsPrimitive i.prim
    → (vs : List MarchStep) (rest : List (Option WordOp)) (ws : List ℕ) → IsSome (run_of i.prim (spots i) (lane at ws) vs).miss
    → SomeReplyDiffers bits (map (word_step bits 0) vs ++ rest) (replies (Some i) ws (map (word_step bits 0) vs ++ rest))
caught_steps i at bits t below is [] rest ws caught = cc
caught_steps i at bits t below is (pausing e ∷ vs) rest ws caught =
    later bits None (map (word_step bits 0) vs ++ rest) (Some i) ws
    (caught_steps i at bits t below is vs rest (words_paused (Some i) ws)
    (subst (λ (l : List Bool). IsSome (run_of i.prim (spots i) l vs).miss) (sym (lane_pause i at ws t)) caught))
caught_steps i at bits t below is (visiting v ∷ vs) rest ws caught =
    let o : WordOp = word_op bits 0 v in
    let os : List (Option WordOp) = map (word_step bits 0) vs ++ rest in
    let r : ℕ = reply_to (Some i) ws o in
    let next : List ℕ = words_after (Some i) ws o in
    let cells : List Bool = step_cells i.prim (spots i) (lane at ws) v.address (act_of v.op) in
    let answer : Option Bool = step_answer i.prim (spots i) (lane at ws) v.address (act_of v.op) in
    let step : lane at next ≡ cells =
    lane_step i at ws o t ∙ ap (step_cells i.prim (spots i) (lane at ws) v.address) (act_solid bits (at v.address) v (below v.address)) in
    elim (is_wrong_of v.op answer)
    as (λ b. is_wrong_of v.op answer ≡ b → IsSome (cond b (record { cells = cells; miss = Some (miss_at v) }) (run_of i.prim (spots i) cells vs)).miss
    → SomeReplyDiffers bits (Some o ∷ os) (r ∷ replies (Some i) next os)) [
      | true ↦ λ wrong here.
          let bad = wrong_read v.op answer wrong in
          let shown : answer ≡ Some (has_bit r (at v.address)) =
          ap (step_answer i.prim (spots i) (lane at ws) v.address) bad.1 ∙ lane_reply i at ws o t is bad.0 in
          let solid : has_bit o.word (at v.address) ≡ data_value v.op = has_bit_solid bits (at v.address) (data_value v.op) (below v.address) in
          record {
            number = 0;
            op = o;
            is_op = refl;
            is_read = bad.0;
            reply = r;
            is_reply = refl;
            differs = λ same.
                bad.2 (shown ∙ ap Some (sym (has_bit_low r bits (at v.address) (below v.address))) ∙ ap (λ w. Some (has_bit w (at v.address))) same ∙ ap Some solid);
          }
      | false ↦ λ right there.
          later bits (Some o) os (Some i) ws
          (caught_steps i at bits t below is vs rest next (subst (λ (l : List Bool). IsSome (run_of i.prim (spots i) l vs).miss) (sym step) there))
    ]
    refl caught

-- steps before
skipped : (bits : ℕ) (i : Option Planted) (ss rest : List (Option WordOp)) (ws : List ℕ) → SomeReplyDiffers bits rest (replies i (words_behind i ws ss) rest)
    → SomeReplyDiffers bits (ss ++ rest) (replies i ws (ss ++ rest))
skipped bits i [] rest ws d = d
skipped bits i (s ∷ ss) rest ws d = later bits s (ss ++ rest) i ws (skipped bits i ss rest (stepped i ws s) d)

-- the words are closed, and as many as the memory has
pub record Ready (i : Planted) (n : ℕ) (ws : List ℕ) : Type 0 where
  pub size : length ws ≡ n
  pub closed : closed_words i ws ≡ ws

pub ready_stepped : (i : Planted) (n : ℕ) (ws : List ℕ) (s : Option WordOp) → IsPrimitive i.prim → i.vic.word < n → Ready i n ws
    → Ready i n (stepped (Some i) ws s)
ready_stepped i n ws s is within ready =
    record {
      size = length_stepped (Some i) ws s ∙ ready.size;
      closed = closed_stepped i ws s is (subst (λ m. i.vic.word < m) (sym ready.size) within);
    }

ready_behind : (i : Planted) (n : ℕ) → IsPrimitive i.prim → i.vic.word < n → (ss : List (Option WordOp)) (ws : List ℕ) → Ready i n ws
    → Ready i n (words_behind (Some i) ws ss)
ready_behind i n is within [] ws ready = ready
ready_behind i n is within (s ∷ ss) ws ready = ready_behind i n is within ss (stepped (Some i) ws s) (ready_stepped i n ws s is within ready)

up_fits : (march : List MarchElement) → IsTrue (is_direction march (up march))
up_fits [] = refl
up_fits (e ∷ es) = go (order_of e) (up_fits es)
  where
    go : (order : Order) → IsTrue (is_direction es (up es)) → IsTrue (allows order (upward order) && is_direction es (up es))
    go Up rest = rest
    go Down rest = rest
    go Any rest = rest

fits_agg : (agg : Option Sense) (place : Option BitPlace) (vic : BitPlace) (words bits : ℕ) → FitsAggPlace agg place vic words bits
    → FitsAgg agg (word_at place) vic.word words
fits_agg None None vic words bits h = tt
fits_agg None (Some p) vic words bits h = absurd h
fits_agg (Some sense) None vic words bits h = absurd h
fits_agg (Some sense) (Some p) vic words bits h = (h.0, h.2)

-- the bit of each word that the lane goes through
abbrev pub bit_beside : Option BitPlace → ℕ → ℕ
bit_beside None bit = bit
bit_beside (Some p) bit = p.bit

abbrev pub bit_through : Planted → ℕ → ℕ
bit_through i k = cond (eqb i.vic.word k) i.vic.bit (bit_beside i.agg i.vic.bit)

through_agg : (i : Planted) (agg : Option Sense) (place : Option BitPlace) (words bits : ℕ) → FitsAggPlace agg place i.vic words bits
    → ThroughAgg place (λ k. cond (eqb i.vic.word k) i.vic.bit (bit_beside place i.vic.bit))
through_agg i agg None words bits h = tt
through_agg i None (Some p) words bits h = absurd h
through_agg i (Some sense) (Some p) words bits h =
    let ne : i.vic.word ≢ p.word = λ e. h.2 (sym e) in
    ap (λ b. cond b i.vic.bit p.bit) (ne_eqb i.vic.word p.word ne)

through : (i : Planted) (words bits : ℕ) → FitsMemory i words bits → Through i (bit_through i)
through i words bits fits =
    record {
      vic = ⊎_elim
          (λ (h : (eqb i.vic.word i.vic.word ≡ true) × (i.vic.word ≡ i.vic.word)). ap (λ b. cond b i.vic.bit (bit_beside i.agg i.vic.bit)) h.0)
          (λ (h : (eqb i.vic.word i.vic.word ≡ false) × (i.vic.word ≢ i.vic.word)). absurd (h.1 refl))
          (eqb_tells i.vic.word i.vic.word);
      agg = through_agg i i.prim.agg i.agg words bits fits.agg;
    }

beside_below : (agg : Option Sense) (place : Option BitPlace) (vic : BitPlace) (words bits : ℕ) → vic.bit < bits → FitsAggPlace agg place vic words bits
    → bit_beside place vic.bit < bits
beside_below agg None vic words bits low h = low
beside_below None (Some p) vic words bits low h = absurd h
beside_below (Some sense) (Some p) vic words bits low h = h.1

through_below : (i : Planted) (words bits : ℕ) → FitsMemory i words bits → (k : ℕ) → bit_through i k < bits
through_below i words bits fits k = go (eqb i.vic.word k)
  where
    go : (b : Bool) → cond b i.vic.bit (bit_beside i.agg i.vic.bit) < bits
    go true = fits.bit
    go false = beside_below i.prim.agg i.agg i.vic words bits fits.bit fits.agg

-- the runs of the backgrounds, up to the run of the background 0
caught_in : (march : List MarchElement) (d : Description) (i : Planted) (at : ℕ → ℕ) → Through i at → ((k : ℕ) → at k < d.bits) → IsPrimitive i.prim
    → FitsPlace i.prim (spots i) d.words → DetectsAt d.words march i.prim
    → (set : List ℕ) (k : ℕ) → k < length set → slice_index_or set k 0 ≡ 0 → (ws : List ℕ) → Ready i d.words ws
    → SomeReplyDiffers d.bits (flat_map (run_in march d) set) (replies (Some i) ws (flat_map (run_in march d) set))
caught_in march d i at t below is fits detects [] k inside solid ws ready = absurd (omega arith)
caught_in march d i at t below is fits detects (b ∷ bs) zero inside solid ws ready =
    let rest : List (Option WordOp) = flat_map (run_in march d) bs in
    let cells : List Bool = lane at ws in
    let size : length cells ≡ d.words = length-lane at ws ∙ ready.size in
    let closed : close_of i.prim (spots i) cells ≡ cells = sym (lane_closed i at ws t) ∙ ap (lane at) ready.closed in
    let miss : IsSome (run_of i.prim (spots i) (close_of i.prim (spots i) cells) (visits march (up march) (length cells))).miss =
    (missed i.prim (spots i) (close_of i.prim (spots i) cells) (visits march (up march) (length cells))).1 (detects (up march) (spots i) cells (up_fits march) fits size) in
    let run : IsSome (run_of i.prim (spots i) cells (visits march (up march) d.words)).miss =
    subst (λ (n : ℕ). IsSome (run_of i.prim (spots i) cells (visits march (up march) n)).miss) size
    (subst (λ (l : List Bool). IsSome (run_of i.prim (spots i) l (visits march (up march) (length cells))).miss) closed miss) in
    subst (λ c. SomeReplyDiffers d.bits (run_in march d c ++ rest) (replies (Some i) ws (run_in march d c ++ rest))) (sym solid)
    (caught_steps i at d.bits t below is (visits march (up march) d.words) rest ws run)
caught_in march d i at t below is fits detects (b ∷ bs) (suc k) inside solid ws ready =
    skipped d.bits (Some i) (run_in march d b) (flat_map (run_in march d) bs) ws
    (caught_in march d i at t below is fits detects bs k (omega arith) solid (words_behind (Some i) ws (run_in march d b))
    (ready_behind i d.words is fits.victim (run_in march d b) ws ready))

-- a planted instance of a detected primitive is caught, whatever the closed words are at the start
pub catches : (march : List MarchElement) (d : Description) (i : Planted) (ws : List ℕ) → IsMemory d → IsPrimitive i.prim → FitsMemory i d.words d.bits
    → DetectsAt d.words march i.prim → Ready i d.words ws → SomeReplyDiffers d.bits (word_steps march d) (replies (Some i) ws (word_steps march d))
catches march d i ws memory is fits detects ready =
    let solid = memory.tested.solid in
    caught_in march d i (bit_through i) (through i d.words d.bits fits) (through_below i d.words d.bits fits) is
    (record { victim = fits.word; aggressor = fits_agg i.prim.agg i.agg i.vic d.words d.bits fits.agg }) detects d.backgrounds solid.0 solid.1 solid.2 ws ready
