-- An instance of a dynamic primitive at bits of words is, in a lane through these bits, that instance at cells.
use Rattle.std.proofs.Common.{◌≡◌, ◌≢◌, ◌^◌, ◌%◌, ◌==◌, ℕ, zero, suc, Bool, true, false, cond, eqb, ◌&&◌, Option, Some, None, is_some, IsSome, List, [], ◌∷◌, ◌++◌, map, length, refl, ap, ap₂, sym, subst, ◌∙◌, ⊎_elim}
use Rattle.std.specs.Prelude.{if◌then◌else◌, slice_set, slice_index}
use Rattle.std.proofs.lemmas.Bool.Decides.{eqb_tells}
use Rattle.fault_core.specs.declared.primitive.Act.{Act}
use Rattle.fault_core.specs.declared.primitive.Act.TheVariants.{Write, Read}
use Rattle.fault_core.specs.Cells.{cell, same_act, plain_cells, answer_or}
use Rattle.fault_core.proofs.Tests.{same_act-equal}
use Rattle.march_core.specs.March.{MarchElement}
use Rattle.march_core.specs.Runs.{up, is_write, data_value}
use Rattle.march_core.specs.Visits.{Visit, MarchStep, pausing, visiting, visits}
use Rattle.array_sim.specs.Run.{act_of}
use Rattle.array_sim.specs.Differing.{SomeDiffersBy}
use Rattle.backgrounds.specs.Backgrounds.{word_of as background_word}
use Rattle.memory_desc.specs.Descriptions.{Description, IsMemory}
use Rattle.word_march.specs.declared.operations.WordOp.{WordOp}
use Rattle.word_march.specs.Commands.{word_op, word_step}
use Rattle.word_device.specs.Chips.{has_bit, with_bit, with_bit_in, act_on, plain_words, plain_reply, answered}
use Rattle.word_device.proofs.Core.{SomeReplyDiffers}
use Rattle.word_device.proofs.Lanes.{lane_cell, length-lane, with_bit_same}
use Rattle.word_device.proofs.Steps.{lane_with_bit, lane_if}
use Rattle.word_device.proofs.Answering.{IsLawful, replies}
use Rattle.word_device.proofs.Attaching.{DiffersRested, answers_wrong}
use Rattle.dynamic_core.specs.declared.stepping.Actor.{Actor}
use Rattle.dynamic_core.specs.Primitive.{TwoActs, DynamicSense, DynamicPrimitive, IsDynamic, aggressor_acts, second_act}
use Rattle.dynamic_core.specs.Dynamic.{held_as, actor_on, agg_actor, actor_or, actor_of, all_states_hold, matches_of, arms_of, set_where, dyn_cells, dyn_step, dyn_answer}
use Rattle.dynamic_core.specs.Differing.{held_after, is_wrong_visit}
use Rattle.dynamic_core.specs.Detecting.{DetectsDyn}
use Rattle.word_faults.specs.Alike.{DynamicAnswers}
use Rattle.word_faults.specs.Laws.{acts_of, RunsOn, IsBegun, BeginsAfresh, DynamicWrong}
use Rattle.word_faults.specs.Cells.{cells_in}
use Rattle.word_faults.specs.Dynamic.{DynPlaces, word_of, words_of, bit_or, bit_of, FitsDynPlaces, HeldWords, held_words, seen, is_second, dyn_words, dynamic}
use Rattle.word_faults.proofs.Catching.{stepped, behind, one_caught, LeavesBegun, catches_begun}
use Rattle.word_faults.proofs.Linked.{same_number, length_if, length_bit, length_plain, lane_plain}
use Rattle.word_faults.proofs.Solid.{act_solid, wrong_read, word_differs, up_fits}

-- ---- the lane

at_vic : (at : DynPlaces) → bit_of at at.vic.word ≡ at.vic.bit
at_vic at = ap (λ b. cond b at.vic.bit (bit_or at.agg at.vic.bit)) (same_number at.vic.word)

pub as_cells : (p : DynamicPrimitive) (at : DynPlaces) (h : HeldWords) (o : WordOp)
    → cells_in (bit_of at) (dyn_words p at h o) ≡ dyn_cells p (words_of at) (seen at h) o.index (act_on o (bit_of at o.index))
unfolding dyn_cells
as_cells p at h o =
    let plain = plain_words h.words o in
    let cs = plain_cells (cells_in (bit_of at) h.words) o.index (act_on o (bit_of at o.index)) in
    lane_if (bit_of at) (is_second p at h o) (with_bit_in plain at.vic p.after) plain (slice_set cs at.vic.word p.after) cs
    (lane_with_bit (bit_of at) plain at.vic p.after (at_vic at) ∙ ap (λ l. slice_set l at.vic.word p.after) (lane_plain (bit_of at) h.words o)) (lane_plain (bit_of at) h.words o)

pub steps_as : (p : DynamicPrimitive) (at : DynPlaces) (h : HeldWords) (o : WordOp)
    → seen at ((dynamic p at).after h o) ≡ dyn_step p (words_of at) (seen at h) o.index (act_on o (bit_of at o.index))
unfolding dyn_step
steps_as p at h o =
    ap (λ l. held_as l (arms_of (actor_of p (words_of at)) (all_states_hold p (words_of at) (cells_in (bit_of at) h.words))
    (dyn_cells p (words_of at) (seen at h) o.index (act_on o (bit_of at o.index))) o.index (act_on o (bit_of at o.index)))) (as_cells p at h o)

-- ---- the last step

data HasLast (vs : List MarchStep) : Type 0 where
  no_step : vs ≡ [] → HasLast vs
  ends_with : (before : List MarchStep) (last : MarchStep) → vs ≡ before ++ last ∷ [] → HasLast vs

last_of : (vs : List MarchStep) → HasLast vs
last_of [] = no_step refl
last_of (v ∷ vs) = go (last_of vs)
  where
    go : HasLast vs → HasLast (v ∷ vs)
    go (no_step e) = ends_with [] v (ap (λ l. v ∷ l) e)
    go (ends_with before last e) = ends_with (v ∷ before) last (ap (λ l. v ∷ l) e)

-- ---- the primitive

module _ (p : DynamicPrimitive) (at : DynPlaces) (words bits : ℕ) (fits : FitsDynPlaces p at words bits) (dyn : IsDynamic p) where
  abbrev Good : HeldWords → Type 0
  Good h = length h.words ≡ words

  abbrev t : ℕ → ℕ
  t = bit_of at

  lawful : IsLawful (dynamic p at) Good
  lawful = record {
    same_after = λ h k x y. refl;
    same_reply = λ h k x y. refl;
    good_after = λ h o good.
        length_if (is_second p at h o) (with_bit_in (plain_words h.words o) at.vic p.after) (plain_words h.words o) words
        (length_bit (plain_words h.words o) at.vic p.after ∙ length_plain h.words o ∙ good) (length_plain h.words o ∙ good);
    good_idled = λ h good. good;
    good_paused = λ h good. good;
    idled_paused = λ h good. refl;
    paused_idled = λ h good. refl;
    settled = λ h good. refl;
  }

  visits_as : (h : HeldWords) (v : Visit) → seen at ((dynamic p at).after h (word_op bits 0 v)) ≡ held_after p (words_of at) (seen at h) (visiting v)
  visits_as h v = steps_as p at h (word_op bits 0 v) ∙ ap (dyn_step p (words_of at) (seen at h) v.address) (act_solid bits (t v.address) v (fits.each_bit v.address))

  -- a primitive that answers acts on its victim's bit
  first_true : (a b : Bool) → (a && b) ≡ true → (a ≡ true) × (b ≡ true)
  first_true true true h = (refl, refl)
  first_true true false h = cc
  first_true false b h = cc

  on_victim : (h : HeldWords) (o : WordOp) (r : Bool) → p.answer ≡ Some r → is_second p at h o ≡ true → t o.index ≡ at.vic.bit
  on_victim h o r answer hit =
      let some : IsSome p.answer = ap is_some answer in
      go p.vic.acts (dyn.answered.0 some) hit
    where
      place : (armed : Bool) (act : Act) → (armed && ((at.vic.word == o.index) && same_act (act_on o (t o.index)) act)) ≡ true → t o.index ≡ at.vic.bit
      place armed act e =
          let both = first_true armed _ e in
          let same = (first_true (eqb at.vic.word o.index) (same_act (act_on o (t o.index)) act) both.1).0 in
          ⊎_elim
          (λ (k : (eqb at.vic.word o.index ≡ true) × (at.vic.word ≡ o.index)). ap t (sym k.1) ∙ at_vic at)
          (λ (k : (eqb at.vic.word o.index ≡ false) × (at.vic.word ≢ o.index)). let z : true ≡ false = sym same ∙ k.0 in cc)
          (eqb_tells at.vic.word o.index)

      go : (acts : Option TwoActs) → second_act acts ≡ Some Read
          → matches_of (actor_or (actor_on at.vic.word p.vic.state acts) (agg_actor p.agg (word_of at.agg))) h.armed o.index (act_on o (t o.index)) ≡ true
          → t o.index ≡ at.vic.bit
      go None e k = cc
      go (Some acts) e k = place h.armed acts.second k

  lane_answer : (h : HeldWords) (o : WordOp) → o.write ≡ false → dyn_answer p (words_of at) (seen at h) o.index Read ≡ Some (has_bit ((dynamic p at).reply h o) (t o.index))
  unfolding dyn_answer
  lane_answer h o read =
      let w : ℕ = slice_index h.words o.index in
      let plain : plain_reply h.words o ≡ w = ap (λ b. if b then 0 else w) read in
      let act : act_on o (t o.index) ≡ Read = ap (λ b. if b then Write (has_bit o.word (t o.index)) else Read) read in
      let same : matches_of (actor_of p (words_of at)) h.armed o.index Read ≡ is_second p at h o =
      sym (ap (matches_of (actor_of p (words_of at)) h.armed o.index) act) in
      ap (λ b. if b then answer_or p.answer (Some (cell (cells_in t h.words) o.index)) else Some (cell (cells_in t h.words) o.index)) same
      ∙ ap (λ c. if is_second p at h o then answer_or p.answer (Some c) else Some c) (lane_cell t h.words o.index)
      ∙ go (is_second p at h o) refl p.answer refl
      ∙ ap (λ x. Some (has_bit (if is_second p at h o then answered p.answer at.vic x else x) (t o.index))) (sym plain)
    where
      go : (b : Bool) → is_second p at h o ≡ b → (answer : Option Bool) → p.answer ≡ answer
          → (if b then answer_or answer (Some (has_bit (slice_index h.words o.index) (t o.index))) else Some (has_bit (slice_index h.words o.index) (t o.index)))
          ≡ Some (has_bit (if b then answered answer at.vic (slice_index h.words o.index) else slice_index h.words o.index) (t o.index))
      go false m answer e = refl
      go true m None e = refl
      go true m (Some r) e =
          ap Some (sym (ap (has_bit (with_bit (slice_index h.words o.index) at.vic.bit r)) (on_victim h o r e m) ∙ with_bit_same (slice_index h.words o.index) at.vic.bit r))

  wrong_as : (h : HeldWords) (v : Visit) → is_wrong_visit p (words_of at) (seen at h) v ≡ true
      → (is_write v.op ≡ false) × ((dynamic p at).reply h (word_op bits 0 v) % 2 ^ bits ≢ background_word 0 (data_value v.op) bits)
  wrong_as h v wrong =
      let bad = wrong_read v.op (dyn_answer p (words_of at) (seen at h) v.address (act_of v.op)) wrong in
      let shown : dyn_answer p (words_of at) (seen at h) v.address (act_of v.op) ≡ Some (has_bit ((dynamic p at).reply h (word_op bits 0 v)) (t v.address)) =
      ap (dyn_answer p (words_of at) (seen at h) v.address) bad.1 ∙ lane_answer h (word_op bits 0 v) bad.0 in (
        bad.0,
        word_differs bits (t v.address) v ((dynamic p at).reply h (word_op bits 0 v)) (fits.each_bit v.address) (λ e. bad.2 (shown ∙ e)),
      )

  -- ---- from one run to the next

  unarmed : HeldWords → HeldWords
  unarmed h = held_words h.words false

  never : (words : List ℕ) (o : WordOp) → is_second p at (held_words words false) o ≡ false
  never words o = go (actor_of p (words_of at))
    where
      go : (a : Option Actor) → matches_of a false o.index (act_on o (t o.index)) ≡ false
      go None = refl
      go (Some s) = refl

  -- an operation that isn't the second act is as where nothing is armed
  step_same : (h : HeldWords) (o : WordOp) → is_second p at h o ≡ false → (dynamic p at).after h o ≡ (dynamic p at).after (unarmed h) o
  unfolding unarmed dyn_step dyn_cells
  step_same h o off =
      let act = act_on o (t o.index) in
      ap (λ b. held_words (if b then with_bit_in (plain_words h.words o) at.vic p.after else plain_words h.words o)
      (arms_of (actor_of p (words_of at)) (all_states_hold p (words_of at) (cells_in t h.words))
      (set_where b (plain_cells (cells_in t h.words) o.index act) at.vic.word p.after) o.index act)) (off ∙ sym (never h.words o))

  reply_same : (h : HeldWords) (o : WordOp) → is_second p at h o ≡ false → (dynamic p at).reply h o ≡ (dynamic p at).reply (unarmed h) o
  unfolding unarmed
  reply_same h o off = ap (λ b. if b then answered p.answer at.vic (plain_reply h.words o) else plain_reply h.words o) (off ∙ sym (never h.words o))

  -- the first step of the background 0 isn't the second act
  abbrev Begun : List MarchStep → HeldWords → Type 0
  Begun vs h = (v : Visit) (more : List MarchStep) → vs ≡ visiting v ∷ more → is_second p at h (word_op bits 0 v) ≡ false

  replies_same : (vs : List MarchStep) (rest : List (Option WordOp)) (h : HeldWords) → Begun vs h → (vs ≡ [] → ⊥)
      → replies (dynamic p at) Good lawful h (map (word_step bits 0) vs ++ rest) ≡ replies (dynamic p at) Good lawful (unarmed h) (map (word_step bits 0) vs ++ rest)
  unfolding unarmed
  replies_same [] rest h begun some = absurd (some refl)
  replies_same (pausing e ∷ vs) rest h begun some = refl
  replies_same (visiting v ∷ vs) rest h begun some =
      let off = begun v vs refl in
      ap₂ (λ (x : ℕ) (l : List ℕ). x ∷ l) (reply_same h (word_op bits 0 v) off)
      (ap (λ (s : HeldWords). replies (dynamic p at) Good lawful s (map (word_step bits 0) vs ++ rest)) (step_same h (word_op bits 0 v) off))

  -- an operation that is the second act right behind another runs on from it
  record Follows (one other : WordOp) : Type 0 where
    same : one.index ≡ other.index
    acts : TwoActs
    are_acts : acts_of p ≡ Some acts
    ends : act_on one (t one.index) ≡ acts.first
    begins : act_on other (t other.index) ≡ acts.second

  and_parts : (a b : Bool) → (a && b) ≡ true → (a ≡ true) × (b ≡ true)
  and_parts true true h = (refl, refl)
  and_parts true false h = cc
  and_parts false b h = cc

  same_place : (x y : ℕ) → (x == y) ≡ true → x ≡ y
  same_place x y h =
      ⊎_elim (λ (k : (eqb x y ≡ true) × (x ≡ y)). k.1) (λ (k : (eqb x y ≡ false) × (x ≢ y)). absurd (let z : true ≡ false = sym h ∙ k.0 in cc)) (eqb_tells x y)

  -- the acts of the cell that has them
  actor_acts : (s : Actor) → actor_of p (words_of at) ≡ Some s → (acts : TwoActs) × (acts_of p ≡ Some acts) × (acts.first ≡ s.first) × (acts.second ≡ s.second)
  actor_acts s e = of_victim p.vic.acts p.agg (word_of at.agg) e
    where
      of_victim : (vic : Option TwoActs) (agg : Option DynamicSense) (place : Option ℕ) → actor_or (actor_on at.vic.word p.vic.state vic) (agg_actor agg place) ≡ Some s
          → (acts : TwoActs) × ((if is_some vic then vic else aggressor_acts agg) ≡ Some acts) × (acts.first ≡ s.first) × (acts.second ≡ s.second)
      of_victim (Some acts) agg place h = (acts, refl, ap first_act h, ap then_act h)
        where
          first_act : Option Actor → Act
          first_act None = acts.first
          first_act (Some a) = a.first

          then_act : Option Actor → Act
          then_act None = acts.second
          then_act (Some a) = a.second
      of_victim None None place h = cc
      of_victim None (Some sense) None h = cc
      of_victim None (Some sense) (Some a) h = of_aggressor sense.acts h
        where
          of_aggressor : (o : Option TwoActs) → actor_on a sense.state o ≡ Some s → (acts : TwoActs) × (o ≡ Some acts) × (acts.first ≡ s.first) × (acts.second ≡ s.second)
          of_aggressor None k = cc
          of_aggressor (Some acts) k = (acts, refl, ap first_act k, ap then_act k)
            where
              first_act : Option Actor → Act
              first_act None = acts.first
              first_act (Some x) = x.first

              then_act : Option Actor → Act
              then_act None = acts.second
              then_act (Some x) = x.second

  follows : (h : HeldWords) (one other : WordOp) → is_second p at ((dynamic p at).after h one) other ≡ true → Follows one other
  unfolding dyn_step
  follows h one other hit = go (actor_of p (words_of at)) refl hit
    where
      go : (a : Option Actor) → actor_of p (words_of at) ≡ a
          → matches_of a (arms_of a (all_states_hold p (words_of at) (cells_in t h.words)) (dyn_cells p (words_of at) (seen at h) one.index (act_on one (t one.index)))
          one.index (act_on one (t one.index))) other.index (act_on other (t other.index)) ≡ true
          → Follows one other
      go None is h = cc
      go (Some s) is h =
          let both = and_parts (arms_of (Some s) (all_states_hold p (words_of at) (cells_in t _)) (dyn_cells p (words_of at) (seen at _) one.index (act_on one (t one.index)))
          one.index (act_on one (t one.index))) ((s.place == other.index) && same_act (act_on other (t other.index)) s.second) h in
          let second = and_parts (s.place == other.index) (same_act (act_on other (t other.index)) s.second) both.1 in
          let armed = and_parts ((s.place == one.index) && same_act (act_on one (t one.index)) s.first) _ both.0 in
          let first = and_parts (s.place == one.index) (same_act (act_on one (t one.index)) s.first) armed.0 in
          let acts = actor_acts s is in
          record {
            same = sym (same_place s.place one.index first.0) ∙ same_place s.place other.index second.0;
            acts = acts.0;
            are_acts = acts.1;
            ends = same_act-equal (act_on one (t one.index)) s.first first.1 ∙ sym acts.2;
            begins = same_act-equal (act_on other (t other.index)) s.second second.1 ∙ sym acts.3;
          }

  behind_last : (h : HeldWords) (x : ℕ) (before : List MarchStep) (last : MarchStep)
      → behind (dynamic p at) Good lawful bits h (map (word_step bits x) (before ++ last ∷ []))
      ≡ stepped (dynamic p at) Good lawful bits (behind (dynamic p at) Good lawful bits h (map (word_step bits x) before)) (word_step bits x last)
  unfolding behind
  behind_last h x [] last = refl
  behind_last h x (step ∷ before) last = behind_last (stepped (dynamic p at) Good lawful bits h (word_step bits x step)) x before last

  begun_behind : (vs : List MarchStep) (x : ℕ) → (RunsOn p vs bits x 0 → ⊥) → (h : HeldWords) → Begun vs (behind (dynamic p at) Good lawful bits h (map (word_step bits x) vs))
  unfolding stepped
  begun_behind vs x apart h v more e = go (last_of vs)
    where
      not_hit : (b : Bool) → (b ≡ true → ⊥) → b ≡ false
      not_hit true never_so = absurd (never_so refl)
      not_hit false never_so = refl

      go : HasLast vs → is_second p at (behind (dynamic p at) Good lawful bits h (map (word_step bits x) vs)) (word_op bits 0 v) ≡ false
      go (no_step is) = let clash : [] ≡ visiting v ∷ more = sym is ∙ e in cc
      go (ends_with before (pausing n) is) =
          ap (λ l. is_second p at (behind (dynamic p at) Good lawful bits h (map (word_step bits x) l)) (word_op bits 0 v)) is
          ∙ ap (λ (s : HeldWords). is_second p at s (word_op bits 0 v)) (behind_last h x before (pausing n))
          ∙ never (let s : HeldWords = behind (dynamic p at) Good lawful bits h (map (word_step bits x) before) in s.words) (word_op bits 0 v)
      go (ends_with before (visiting w) is) =
          let s : HeldWords = behind (dynamic p at) Good lawful bits h (map (word_step bits x) before) in
          ap (λ l. is_second p at (behind (dynamic p at) Good lawful bits h (map (word_step bits x) l)) (word_op bits 0 v)) is
          ∙ ap (λ (s : HeldWords). is_second p at s (word_op bits 0 v)) (behind_last h x before (visiting w))
          ∙ not_hit (is_second p at ((dynamic p at).after s (word_op bits x w)) (word_op bits 0 v)) (λ hit.
          let on = follows s (word_op bits x w) (word_op bits 0 v) hit in
          apart (record {
            last = w;
            first = v;
            before = before;
            behind = more;
            is_last = is;
            is_first = e;
            same_word = on.same;
            acts = on.acts;
            are_acts = on.are_acts;
            bit = t w.address;
            low = fits.each_bit w.address;
            ends = on.ends;
            begins = ap (λ k. act_on (word_op bits 0 v) (t k)) on.same ∙ on.begins;
          }))

pub answers_as : DynamicAnswers
answers_as p at words bits h o dyn fits read = lane_answer p at words bits fits dyn h o read

-- ---- the test

pub dynamic_caught : (march : List MarchElement) (d : Description) → IsMemory d → (p : DynamicPrimitive) → IsDynamic p → BeginsAfresh p march d → DetectsDyn march p
    → (at : DynPlaces) → FitsDynPlaces p at d.words d.bits → DiffersRested (dynamic p at) (λ h. length h.words ≡ d.words) (λ h. h.armed ≡ false) march d
unfolding unarmed
dynamic_caught march d is p dyn fresh detected at places =
    let law = lawful p at d.words d.bits places dyn in
    let G : HeldWords → Type 0 = Good p at d.words d.bits places dyn in
    let B : HeldWords → Type 0 = Begun p at d.words d.bits places dyn vs in
    record {
      lawful = law;
      idled = λ h. refl;
      paused = λ h. refl;
      differs = λ s good off.
          catches_begun (dynamic p at) G law d.bits (held_after p (words_of at)) (is_wrong_visit p (words_of at)) (seen at)
          (λ h v g. visits_as p at d.words d.bits places dyn h v) (λ h e g. refl) (λ h v g wrong. wrong_as p at d.words d.bits places dyn h v wrong) march d refl B
          from_begun fresh.0 fresh.1 (begins fresh.0 fresh.2) s good (λ v more e. still s off (word_op d.bits 0 v));
    }
  where
    vs : List MarchStep
    vs = visits march (up march) d.words

    still : (h : HeldWords) → h.armed ≡ false → (o : WordOp) → is_second p at h o ≡ false
    still h off o = ap (λ b. is_second p at (held_words h.words b) o) off ∙ never p at d.words d.bits places dyn h.words o

    by : (ws : List ℕ) → length ws ≡ d.words
        → SomeDiffersBy (held_after p (words_of at)) (is_wrong_visit p (words_of at)) (held_as (cells_in (bit_of at) ws) false) (visits march (up march) d.words)
    by ws good =
        let size : length (cells_in (bit_of at) ws) ≡ d.words = length-lane (bit_of at) ws ∙ good in
        subst (λ (n : ℕ). SomeDiffersBy (held_after p (words_of at)) (is_wrong_visit p (words_of at)) (held_as (cells_in (bit_of at) ws) false) (visits march (up march) n)) size
        (detected d.words is.words_low (up march) (words_of at) (cells_in (bit_of at) ws) (up_fits march) places.cells size)

    some : {C : Type 0} {after : C → MarchStep → C} {is_wrong : C → Visit → Bool} {c : C} → SomeDiffersBy after is_wrong c vs → vs ≡ [] → ⊥
    some found e = no (found.1.before) (sym e ∙ found.1.split)
      where
        no : (before : List MarchStep) → [] ≡ before ++ visiting found.0 ∷ found.1.behind → ⊥
        no [] k = cc
        no (x ∷ xs) k = cc

    from_begun : (rest : List (Option WordOp)) (h : HeldWords) → length h.words ≡ d.words → Begun p at d.words d.bits places dyn vs h
        → SomeReplyDiffers d.bits (map (word_step d.bits 0) vs ++ rest)
        (replies (dynamic p at) (Good p at d.words d.bits places dyn) (lawful p at d.words d.bits places dyn) h (map (word_step d.bits 0) vs ++ rest))
    from_begun rest h good begun =
        let found = by h.words good in
        subst (SomeReplyDiffers d.bits (map (word_step d.bits 0) vs ++ rest)) (sym (replies_same p at d.words d.bits places dyn vs rest h begun (some found)))
        (one_caught (dynamic p at) (Good p at d.words d.bits places dyn) (lawful p at d.words d.bits places dyn) d.bits (held_after p (words_of at)) (is_wrong_visit p (words_of at)) (seen at)
        (λ h v g. visits_as p at d.words d.bits places dyn h v) (λ h e g. refl) (λ h v g wrong. wrong_as p at d.words d.bits places dyn h v wrong) vs rest (held_words h.words false) good found)

    begins : (k : ℕ) → IsBegun p march d k
        → LeavesBegun (dynamic p at) (Good p at d.words d.bits places dyn) (lawful p at d.words d.bits places dyn) d.bits (held_after p (words_of at)) (is_wrong_visit p (words_of at)) (seen at)
        (λ h v g. visits_as p at d.words d.bits places dyn h v) (λ h e g. refl) (λ h v g wrong. wrong_as p at d.words d.bits places dyn h v wrong) march d refl
        (Begun p at d.words d.bits places dyn vs) from_begun d.backgrounds k
    begins zero fresh = tt
    begins (suc k) fresh = λ x there h good. begun_behind p at d.words d.bits places dyn vs x (fresh x there) h

pub dynamic_wrong : (march : List MarchElement) (d : Description) → IsMemory d → DynamicWrong march d
dynamic_wrong march d is p dyn fresh detected m at has places =
    answers_wrong (dynamic p at) (λ h. length h.words ≡ d.words) (λ h. h.armed ≡ false) march d (dynamic_caught march d is p dyn fresh detected at places) is m has.words
