-- A linked fault at bits of different words is, in a lane through these bits, that fault at cells.
use Rattle.std.proofs.Common.{◌≡◌, ◌≢◌, ◌<◌, ◌≤◌, ◌^◌, ◌%◌, ℕ, Bool, true, false, cond, eqb, not, ◌&&◌, ◌⊎◌, inl, inr, Option, Some, None, IsSome, List, [], ◌∷◌, ◌++◌, length, length-append, refl, ap, sym, subst, ◌∙◌, ◌↔◌, ⊎_elim, arith}
use Rattle.std.specs.Prelude.{if◌then◌else◌, slice_set, slice_index}
use Rattle.std.proofs.lemmas.Bool.{ne_eqb, cases_lt}
use Rattle.std.proofs.lemmas.Bool.Decides.{eqb_tells}
use Rattle.std.proofs.lemmas.List.{length-set}
use Rattle.fault_core.specs.declared.primitive.Act.TheVariants.{Write, Read}
use Rattle.fault_core.specs.declared.primitive.Sense.{Sense}
use Rattle.fault_core.specs.declared.cells.Places.{Places}
use Rattle.fault_core.specs.Primitive.{IsPrimitive, is_retention}
use Rattle.fault_core.specs.Cells.{has_act, acts, plain_cells, plain_answer, answer_or, step_answer, states_hold, FitsAgg, FitsPlace}
use Rattle.march_core.specs.March.{MarchElement, IsMarch}
use Rattle.march_core.specs.Runs.{up, is_write, data_value}
use Rattle.march_core.specs.Visits.{Visit, visiting, pausing, visits}
use Rattle.array_sim.specs.Run.{act_of}
use Rattle.array_sim.specs.Differing.{SomeDiffersBy}
use Rattle.backgrounds.specs.Backgrounds.{word_of}
use Rattle.memory_desc.specs.Descriptions.{Description, IsMemory}
use Rattle.word_march.specs.declared.operations.WordOp.{WordOp}
use Rattle.word_march.specs.Commands.{word_op}
use Rattle.word_device.specs.declared.device.BitPlace.{BitPlace}
use Rattle.word_device.specs.declared.device.Planted.{Planted}
use Rattle.word_device.specs.Chips.{FitsAggPlace, has_bit, with_bit, with_bit_in, bits_hold, closed_words, paused_words, act_on, matches, plain_words, plain_reply, answered, reply_to}
use Rattle.word_device.proofs.Closed.{paused_twice}
use Rattle.word_device.proofs.Lanes.{lane, lane_set, length-lane}
use Rattle.word_device.proofs.Porting.{op_of, matches_read}
use Rattle.word_device.proofs.Steps.{word_at, spots, Through, ThroughAgg, lane_with_bit, lane_if, states_same, matches_same, lane_reply}
use Rattle.word_device.proofs.Answering.{IsLawful}
use Rattle.word_device.proofs.Attaching.{AlwaysDiffers, from_any, answers_wrong}
use Rattle.linked_faults.specs.declared.link.Link.{Link}
use Rattle.linked_faults.specs.declared.link.LinkPlaces.{LinkPlaces}
use Rattle.linked_faults.specs.Linking.{IsLinked, FitsLink, first_places, second_places, linked_cells, linked_answer, linked_pause}
use Rattle.linked_faults.specs.Detection.{cells_behind, is_wrong_there, Detects}
use Rattle.linked_faults.proofs.Places.{have_spots}
use Rattle.word_faults.specs.Laws.{LinkedWrong}
use Rattle.word_faults.specs.Linked.{Bits, FitsBits, bit_beside, first_of, second_of, linked_words, linked_reply, linked_paused, linked}
use Rattle.word_faults.proofs.Catching.{catches}
use Rattle.word_faults.proofs.Fewer.{fewer}
use Rattle.word_faults.proofs.Solid.{act_solid, wrong_read, word_differs, up_fits}

-- ---- the lane

abbrev choose : Option BitPlace → ℕ → ℕ → ℕ
choose None k other = other
choose (Some p) k other = cond (eqb p.word k) p.bit other

abbrev second_at : Link → Bits → BitPlace
second_at link at = if link.is_shared then at.a else at.b

lane_of : Link → Bits → ℕ → ℕ
lane_of link at k =
    cond (eqb at.v.word k) at.v.bit (choose (bit_beside link.first.agg at.a) k (choose (bit_beside link.second.agg (second_at link at)) k at.v.bit))

pub same_number : (n : ℕ) → eqb n n ≡ true
same_number n = ⊎_elim (λ (h : (eqb n n ≡ true) × (n ≡ n)). h.0) (λ (h : (eqb n n ≡ false) × (n ≢ n)). absurd (h.1 refl)) (eqb_tells n n)

at_v : (link : Link) (at : Bits) → lane_of link at at.v.word ≡ at.v.bit
unfolding lane_of
at_v link at =
    ap (λ b. cond b at.v.bit (choose (bit_beside link.first.agg at.a) at.v.word (choose (bit_beside link.second.agg (second_at link at)) at.v.word at.v.bit)))
    (same_number at.v.word)

module _ (link : Link) (at : Bits) (words bits : ℕ) (fits : FitsBits link at words bits) where
  at_first : ThroughAgg (bit_beside link.first.agg at.a) (lane_of link at)
  unfolding lane_of
  at_first = go link.first.agg fits.first.agg
    where
      rest : ℕ → ℕ
      rest k = choose (bit_beside link.second.agg (second_at link at)) k at.v.bit

      go : (f : Option Sense) → FitsAggPlace f (bit_beside f at.a) at.v words bits
          → ThroughAgg (bit_beside f at.a) (λ k. cond (eqb at.v.word k) at.v.bit (choose (bit_beside f at.a) k (choose (bit_beside link.second.agg (second_at link at)) k at.v.bit)))
      go None h = tt
      go (Some sense) h =
          ap (λ b. cond b at.v.bit (cond (eqb at.a.word at.a.word) at.a.bit (choose (bit_beside link.second.agg (second_at link at)) at.a.word at.v.bit)))
          (ne_eqb at.v.word at.a.word (λ e. h.2 (sym e)))
          ∙ ap (λ b. cond b at.a.bit (choose (bit_beside link.second.agg (second_at link at)) at.a.word at.v.bit)) (same_number at.a.word)

  at_second : ThroughAgg (bit_beside link.second.agg (second_at link at)) (lane_of link at)
  unfolding lane_of
  at_second = go link.first.agg link.second.agg link.is_shared fits.second.agg fits.apart
    where
      go : (f g : Option Sense) (shared : Bool) → (let q : BitPlace = if shared then at.a else at.b in FitsAggPlace g (bit_beside g q) at.v words bits)
          → (IsSome f → IsSome g → shared ≡ false → at.a.word ≢ at.b.word)
          → (let q : BitPlace = if shared then at.a else at.b in ThroughAgg (bit_beside g q) (λ k. cond (eqb at.v.word k) at.v.bit (choose (bit_beside f at.a) k (choose (bit_beside g q) k at.v.bit))))
      go f None shared h apart = tt
      go None (Some sense) true h apart =
          ap (λ b. cond b at.v.bit (cond (eqb at.a.word at.a.word) at.a.bit at.v.bit)) (ne_eqb at.v.word at.a.word (λ e. h.2 (sym e)))
          ∙ ap (λ b. cond b at.a.bit at.v.bit) (same_number at.a.word)
      go None (Some sense) false h apart =
          ap (λ b. cond b at.v.bit (cond (eqb at.b.word at.b.word) at.b.bit at.v.bit)) (ne_eqb at.v.word at.b.word (λ e. h.2 (sym e)))
          ∙ ap (λ b. cond b at.b.bit at.v.bit) (same_number at.b.word)
      go (Some first) (Some sense) true h apart =
          ap (λ b. cond b at.v.bit (cond (eqb at.a.word at.a.word) at.a.bit (cond (eqb at.a.word at.a.word) at.a.bit at.v.bit))) (ne_eqb at.v.word at.a.word (λ e. h.2 (sym e)))
          ∙ ap (λ b. cond b at.a.bit (cond b at.a.bit at.v.bit)) (same_number at.a.word)
      go (Some first) (Some sense) false h apart =
          ap (λ b. cond b at.v.bit (cond (eqb at.a.word at.b.word) at.a.bit (cond (eqb at.b.word at.b.word) at.b.bit at.v.bit))) (ne_eqb at.v.word at.b.word (λ e. h.2 (sym e)))
          ∙ ap (λ b. cond b at.a.bit (cond (eqb at.b.word at.b.word) at.b.bit at.v.bit)) (ne_eqb at.a.word at.b.word (apart refl refl refl))
          ∙ ap (λ b. cond b at.b.bit at.v.bit) (same_number at.b.word)

  lane_below : (k : ℕ) → lane_of link at k < bits
  unfolding lane_of
  lane_below k =
      either (eqb at.v.word k) (chosen link.first.agg at.a k _ fits.first.agg (chosen link.second.agg (second_at link at) k at.v.bit fits.second.agg fits.first.bit))
    where
      either : (b : Bool) {x : ℕ} → x < bits → cond b at.v.bit x < bits
      either true low = fits.first.bit
      either false low = low

      chosen : (f : Option Sense) (p : BitPlace) (k other : ℕ) → FitsAggPlace f (bit_beside f p) at.v words bits → other < bits → choose (bit_beside f p) k other < bits
      chosen None p k other h low = low
      chosen (Some sense) p k other h low = go (eqb p.word k)
        where
          go : (b : Bool) → cond b p.bit other < bits
          go true = h.1
          go false = low

  agg_cell : (f : Option Sense) (p : BitPlace) → FitsAggPlace f (bit_beside f p) at.v words bits → FitsAgg f (word_at (bit_beside f p)) at.v.word words
  agg_cell None p h = tt
  agg_cell (Some sense) p h = (h.0, h.2)

  fits_link : FitsLink link (spots (first_of link at)) (spots (second_of link at)) words
  fits_link = record {
    first_fits = record { victim = fits.first.word; aggressor = agg_cell link.first.agg at.a fits.first.agg };
    second_fits = record { victim = fits.second.word; aggressor = agg_cell link.second.agg (second_at link at) fits.second.agg };
    victim = refl;
    aggressors = λ x y. one_or_two link.first.agg link.second.agg link.is_shared fits.apart x y;
  }
    where
      one_or_two : (f g : Option Sense) (shared : Bool) → (IsSome f → IsSome g → shared ≡ false → at.a.word ≢ at.b.word) → (x y : ℕ) → word_at (bit_beside f at.a) ≡ Some x
          → (let q : BitPlace = if shared then at.a else at.b in word_at (bit_beside g q)) ≡ Some y → (x ≡ y) ↔ (shared ≡ true)
      one_or_two None g shared apart x y e k = cc
      one_or_two (Some f) None shared apart x y e k = cc
      one_or_two (Some f) (Some g) true apart x y e k = let same : x ≡ y = cc in ((λ h. refl), (λ h. same))
      one_or_two (Some f) (Some g) false apart x y e k =
          let first : at.a.word ≡ x = cc in
          let second : at.b.word ≡ y = cc in
          ((λ h. absurd (apart refl refl refl (first ∙ h ∙ sym second))), (λ h. cc))

-- ---- lengths

pub length_if : (b : Bool) (xs ys : List ℕ) (n : ℕ) → length xs ≡ n → length ys ≡ n → length (if b then xs else ys) ≡ n
length_if true xs ys n hx hy = hx
length_if false xs ys n hx hy = hy

pub length_bit : (ws : List ℕ) (p : BitPlace) (b : Bool) → length (with_bit_in ws p b) ≡ length ws
length_bit ws p b = length-set ws p.word (with_bit (slice_index ws p.word) p.bit b)

pub length_plain : (ws : List ℕ) (o : WordOp) → length (plain_words ws o) ≡ length ws
length_plain ws o = length_if o.write (slice_set ws o.index o.word) ws (length ws) (length-set ws o.index o.word) refl

pub lane_plain : (t : ℕ → ℕ) (ws : List ℕ) (o : WordOp) → lane t (plain_words ws o) ≡ plain_cells (lane t ws) o.index (act_on o (t o.index))
lane_plain t ws o = go o.write
  where
    go : (write : Bool) → lane t (if write then slice_set ws o.index o.word else ws)
        ≡ plain_cells (lane t ws) o.index (if write then Write (has_bit o.word (t o.index)) else Read)
    go true = lane_set t ws o.index o.word
    go false = refl

-- ---- pauses

-- an instance with an act closes nothing
pub never_closes : (i : Planted) (words : List ℕ) → has_act i.prim ≡ true → closed_words i words ≡ words
unfolding closed_words
never_closes i words h = ap (λ (b : Bool). if not b && bits_hold i words then with_bit_in words i.vic i.prim.after else words) h

-- of two of which one has no pause, the other's is the whole
pub first_pauses : (link : Link) (at : Bits) (words : List ℕ) → is_retention link.second ≡ false → has_act link.first ≡ true
    → linked_paused link at words ≡ paused_words (first_of link at) words
unfolding paused_words
first_pauses link at words stays acts =
    let hit : Bool = is_retention link.first && bits_hold (first_of link at) words in
    ap (λ (b : Bool). if hit then with_bit_in words at.v link.first.after
    else if b && bits_hold (second_of link at) words then with_bit_in words at.v link.second.after else words) stays
    ∙ sym (never_closes (first_of link at) (if hit then with_bit_in words at.v link.first.after else words) acts)

pub second_pauses : (link : Link) (at : Bits) (words : List ℕ) → is_retention link.first ≡ false → has_act link.second ≡ true
    → linked_paused link at words ≡ paused_words (second_of link at) words
unfolding paused_words
second_pauses link at words stays acts =
    let rest : List ℕ = if is_retention link.second && bits_hold (second_of link at) words then with_bit_in words at.v link.second.after else words in
    ap (λ (b : Bool). if b && bits_hold (first_of link at) words then with_bit_in words at.v link.first.after else rest) stays
    ∙ sym (never_closes (second_of link at) rest acts)

-- ---- the fault

module _ (link : Link) (at : Bits) (words bits : ℕ) (fits : FitsBits link at words bits) (first : IsPrimitive link.first) (second : IsPrimitive link.second)
    (alone : (is_retention link.first ≡ false) ⊎ (is_retention link.second ≡ false)) (pair : IsLinked link) (s : LinkPlaces) (first_is : first_places link s ≡ spots (first_of link at))
    (second_is : second_places link s ≡ spots (second_of link at)) where
  abbrev Good : List ℕ → Type 0
  Good ws = length ws ≡ words

  abbrev t : ℕ → ℕ
  t = lane_of link at

  inside : (ws : List ℕ) → Good ws → at.v.word < length ws
  inside ws good = subst (λ (n : ℕ). at.v.word < n) (sym good) fits.first.word

  -- a pause that is taken again changes nothing, since one of the two alone has one
  twice : (ws : List ℕ) → Good ws → linked_paused link at (linked_paused link at ws) ≡ linked_paused link at ws
  twice ws good = go alone
    where
      as_first : (xs : List ℕ) → is_retention link.second ≡ false → linked_paused link at xs ≡ paused_words (first_of link at) xs
      as_first xs stays = first_pauses link at xs stays pair.first_acts

      as_second : (xs : List ℕ) → is_retention link.first ≡ false → linked_paused link at xs ≡ paused_words (second_of link at) xs
      as_second xs stays = second_pauses link at xs stays pair.second_acts

      go : (is_retention link.first ≡ false) ⊎ (is_retention link.second ≡ false) → linked_paused link at (linked_paused link at ws) ≡ linked_paused link at ws
      go (inl stays) =
          ap (linked_paused link at) (as_second ws stays) ∙ as_second (paused_words (second_of link at) ws) stays
          ∙ paused_twice (second_of link at) ws second (inside ws good) ∙ sym (as_second ws stays)
      go (inr stays) =
          ap (linked_paused link at) (as_first ws stays) ∙ as_first (paused_words (first_of link at) ws) stays
          ∙ paused_twice (first_of link at) ws first (inside ws good) ∙ sym (as_first ws stays)

  lawful : IsLawful (linked link at) Good
  lawful = record {
    same_after = λ s k x y.
        ap (λ b. if b then with_bit_in s at.v link.first.after else if matches (second_of link at) s (op_of false k x) then with_bit_in s at.v link.second.after else s)
        (matches_read (first_of link at) s k x y)
        ∙ ap (λ b. if matches (first_of link at) s (op_of false k y) then with_bit_in s at.v link.first.after else if b then with_bit_in s at.v link.second.after else s)
        (matches_read (second_of link at) s k x y);
    same_reply = λ s k x y.
        ap (λ b. if b then answered link.first.answer at.v (slice_index s k)
        else if matches (second_of link at) s (op_of false k x) then answered link.second.answer at.v (slice_index s k) else slice_index s k)
        (matches_read (first_of link at) s k x y)
        ∙ ap (λ b. if matches (first_of link at) s (op_of false k y) then answered link.first.answer at.v (slice_index s k)
        else if b then answered link.second.answer at.v (slice_index s k) else slice_index s k)
        (matches_read (second_of link at) s k x y);
    good_after = λ s o good.
        let plain = plain_words s o in
        length_if (matches (first_of link at) s o) (with_bit_in plain at.v link.first.after)
        (if matches (second_of link at) s o then with_bit_in plain at.v link.second.after else plain) words
        (length_bit plain at.v link.first.after ∙ length_plain s o ∙ good)
        (length_if (matches (second_of link at) s o) (with_bit_in plain at.v link.second.after) plain words
        (length_bit plain at.v link.second.after ∙ length_plain s o ∙ good) (length_plain s o ∙ good));
    good_idled = λ s good. good;
    good_paused = λ s good.
        length_if (is_retention link.first && bits_hold (first_of link at) s) (with_bit_in s at.v link.first.after)
        (if is_retention link.second && bits_hold (second_of link at) s then with_bit_in s at.v link.second.after else s) words
        (length_bit s at.v link.first.after ∙ good)
        (length_if (is_retention link.second && bits_hold (second_of link at) s) (with_bit_in s at.v link.second.after) s words
        (length_bit s at.v link.second.after ∙ good) good);
    idled_paused = λ s good. refl;
    paused_idled = λ s good. refl;
    settled = λ s good. twice s good;
  }

  -- ---- as cells

  through_first : Through (first_of link at) t
  through_first = record { vic = at_v link at; agg = at_first link at words bits fits }

  through_second : Through (second_of link at) t
  through_second = record { vic = at_v link at; agg = at_second link at words bits fits }

  victim_is : s.v ≡ at.v.word
  victim_is = ap (λ (p : Places). p.vic) first_is

  first_spots : spots (first_of link at) ≡ first_places link s
  first_spots = sym first_is

  second_spots : spots (second_of link at) ≡ second_places link s
  second_spots = sym second_is

  first_acts : (ws : List ℕ) (o : WordOp) → matches (first_of link at) ws o ≡ acts link.first (first_places link s) (lane t ws) o.index (act_on o (t o.index))
  first_acts ws o =
      matches_same (first_of link at) t ws o through_first ∙ ap (λ p. acts link.first p (lane t ws) o.index (act_on o (t o.index))) first_spots

  second_acts : (ws : List ℕ) (o : WordOp) → matches (second_of link at) ws o ≡ acts link.second (second_places link s) (lane t ws) o.index (act_on o (t o.index))
  second_acts ws o =
      matches_same (second_of link at) t ws o through_second ∙ ap (λ p. acts link.second p (lane t ws) o.index (act_on o (t o.index))) second_spots

  lane_linked : (ws : List ℕ) (o : WordOp) → lane t (linked_words link at ws o) ≡ linked_cells link s (lane t ws) o.index (act_on o (t o.index))
  unfolding linked_cells
  lane_linked ws o =
      let plain = plain_words ws o in
      let cs = plain_cells (lane t ws) o.index (act_on o (t o.index)) in
      let by_plain : lane t plain ≡ cs = lane_plain t ws o in
      let set : (b : Bool) → lane t (with_bit_in plain at.v b) ≡ slice_set cs s.v b =
      λ b. lane_with_bit t plain at.v b (at_v link at) ∙ ap (λ l. slice_set l at.v.word b) by_plain ∙ ap (λ x. slice_set cs x b) (sym victim_is) in
      ap (λ b. lane t (if b then with_bit_in plain at.v link.first.after else if matches (second_of link at) ws o then with_bit_in plain at.v link.second.after else plain)) (first_acts ws o)
      ∙ lane_if t (acts link.first (first_places link s) (lane t ws) o.index (act_on o (t o.index)))
      (with_bit_in plain at.v link.first.after) (if matches (second_of link at) ws o then with_bit_in plain at.v link.second.after else plain)
      (slice_set cs s.v link.first.after)
      (if acts link.second (second_places link s) (lane t ws) o.index (act_on o (t o.index)) then slice_set cs s.v link.second.after else cs)
      (set link.first.after)
      (ap (λ b. lane t (if b then with_bit_in plain at.v link.second.after else plain)) (second_acts ws o)
      ∙ lane_if t (acts link.second (second_places link s) (lane t ws) o.index (act_on o (t o.index)))
      (with_bit_in plain at.v link.second.after) plain (slice_set cs s.v link.second.after) cs (set link.second.after) by_plain)

  visits_as : (ws : List ℕ) (v : Visit) → lane t (linked_words link at ws (word_op bits 0 v)) ≡ cells_behind link s (lane t ws) (visiting v)
  visits_as ws v =
      lane_linked ws (word_op bits 0 v)
      ∙ ap (linked_cells link s (lane t ws) v.address) (act_solid bits (t v.address) v (lane_below link at words bits fits v.address))

  -- what a read answers
  lane_answer : (ws : List ℕ) (o : WordOp) → o.write ≡ false → linked_answer link s (lane t ws) o.index Read ≡ Some (has_bit (linked_reply link at ws o) (t o.index))
  unfolding linked_answer reply_to step_answer
  lane_answer ws o read =
      let pl = plain_reply ws o in
      let cs = lane t ws in
      let act : act_on o (t o.index) ≡ Read = ap (λ b. if b then Write (has_bit o.word (t o.index)) else Read) read in
      let one : acts link.first (first_places link s) cs o.index Read ≡ matches (first_of link at) ws o =
      sym (first_acts ws o ∙ ap (acts link.first (first_places link s) cs o.index) act) in
      let two : acts link.second (second_places link s) cs o.index Read ≡ matches (second_of link at) ws o =
      sym (second_acts ws o ∙ ap (acts link.second (second_places link s) cs o.index) act) in
      let U = plain_answer cs o.index Read in
      -- the same of each primitive alone
      let alone_first : (if matches (first_of link at) ws o then answer_or link.first.answer U else U)
      ≡ Some (has_bit (if matches (first_of link at) ws o then answered link.first.answer at.v pl else pl) (t o.index)) =
      ap (λ b. if b then answer_or link.first.answer U else U) (sym one)
      ∙ ap (λ p. if acts link.first p cs o.index Read then answer_or link.first.answer U else U) (sym first_spots)
      ∙ lane_reply (first_of link at) t ws o through_first first read in
      let alone_second : (if matches (second_of link at) ws o then answer_or link.second.answer U else U)
      ≡ Some (has_bit (if matches (second_of link at) ws o then answered link.second.answer at.v pl else pl) (t o.index)) =
      ap (λ b. if b then answer_or link.second.answer U else U) (sym two)
      ∙ ap (λ p. if acts link.second p cs o.index Read then answer_or link.second.answer U else U) (sym second_spots)
      ∙ lane_reply (second_of link at) t ws o through_second second read in
      ap (λ b. if b then answer_or link.first.answer U
      else if acts link.second (second_places link s) cs o.index Read then answer_or link.second.answer U else U) one
      ∙ ap (λ b. if matches (first_of link at) ws o then answer_or link.first.answer U else if b then answer_or link.second.answer U else U) two
      ∙ both (matches (first_of link at) ws o) (matches (second_of link at) ws o) (answer_or link.first.answer U) (answer_or link.second.answer U) U
      (answered link.first.answer at.v pl) (answered link.second.answer at.v pl) pl alone_first alone_second
    where
      both : (x y : Bool) (f g u : Option Bool) (m n p : ℕ) → (if x then f else u) ≡ Some (has_bit (if x then m else p) (t o.index))
          → (if y then g else u) ≡ Some (has_bit (if y then n else p) (t o.index))
          → (if x then f else if y then g else u) ≡ Some (has_bit (if x then m else if y then n else p) (t o.index))
      both true y f g u m n p h k = h
      both false y f g u m n p h k = k

  wrong_as : (ws : List ℕ) (v : Visit) → is_wrong_there link s (lane t ws) v ≡ true
      → (is_write v.op ≡ false) × (linked_reply link at ws (word_op bits 0 v) % 2 ^ bits ≢ word_of 0 (data_value v.op) bits)
  wrong_as ws v wrong =
      let bad = wrong_read v.op (linked_answer link s (lane t ws) v.address (act_of v.op)) wrong in
      let shown : linked_answer link s (lane t ws) v.address (act_of v.op) ≡ Some (has_bit (linked_reply link at ws (word_op bits 0 v)) (t v.address)) =
      ap (linked_answer link s (lane t ws) v.address) bad.1 ∙ lane_answer ws (word_op bits 0 v) bad.0 in (
        bad.0,
        word_differs bits (t v.address) v (linked_reply link at ws (word_op bits 0 v)) (lane_below link at words bits fits v.address) (λ e. bad.2 (shown ∙ e)),
      )

  rests_as : (ws : List ℕ) (e : ℕ) → lane t (linked_paused link at ws) ≡ cells_behind link s (lane t ws) (pausing e)
  unfolding linked_pause
  rests_as ws e =
      let cs = lane t ws in
      let set : (b : Bool) → lane t (with_bit_in ws at.v b) ≡ slice_set cs s.v b =
      λ b. lane_with_bit t ws at.v b (at_v link at) ∙ ap (λ x. slice_set cs x b) (sym victim_is) in
      ap (λ b. lane t (if is_retention link.first && b then with_bit_in ws at.v link.first.after
      else if is_retention link.second && bits_hold (second_of link at) ws then with_bit_in ws at.v link.second.after else ws)) (first_hold ws)
      ∙ lane_if t (is_retention link.first && states_hold link.first (first_places link s) cs) (with_bit_in ws at.v link.first.after)
      (if is_retention link.second && bits_hold (second_of link at) ws then with_bit_in ws at.v link.second.after else ws)
      (slice_set cs s.v link.first.after)
      (if is_retention link.second && states_hold link.second (second_places link s) cs then slice_set cs s.v link.second.after else cs)
      (set link.first.after)
      (ap (λ b. lane t (if is_retention link.second && b then with_bit_in ws at.v link.second.after else ws)) (second_hold ws)
      ∙ lane_if t (is_retention link.second && states_hold link.second (second_places link s) cs) (with_bit_in ws at.v link.second.after) ws
      (slice_set cs s.v link.second.after) cs (set link.second.after) refl)
    where
      first_hold : (ws : List ℕ) → bits_hold (first_of link at) ws ≡ states_hold link.first (first_places link s) (lane t ws)
      first_hold ws = states_same (first_of link at) t ws through_first ∙ ap (λ p. states_hold link.first p (lane t ws)) first_spots

      second_hold : (ws : List ℕ) → bits_hold (second_of link at) ws ≡ states_hold link.second (second_places link s) (lane t ws)
      second_hold ws = states_same (second_of link at) t ws through_second ∙ ap (λ p. states_hold link.second p (lane t ws)) second_spots

-- ---- the test

-- the three cells that the two primitives are at, and what the march finds there
record Chosen (march : List MarchElement) (link : Link) (at : Bits) (words : ℕ) : Type 0 where
  s : LinkPlaces
  first_is : first_places link s ≡ spots (first_of link at)
  second_is : second_places link s ≡ spots (second_of link at)
  caught : (cells : List Bool) → length cells ≡ words → SomeDiffersBy (cells_behind link s) (is_wrong_there link s) cells (visits march (up march) words)

more_cells : (f : Option Sense) (place : Option ℕ) (vic n k : ℕ) → n ≤ k → FitsAgg f place vic n → FitsAgg f place vic k
more_cells None None vic n k more h = tt
more_cells None (Some a) vic n k more h = absurd h
more_cells (Some sense) None vic n k more h = absurd h
more_cells (Some sense) (Some a) vic n k more h = let low = h.0 in (omega (arith, low, more), h.1)

longer : (link : Link) (p q : Places) (n k : ℕ) → n ≤ k → FitsLink link p q n → FitsLink link p q k
longer link p q n k more fits =
    let one = fits.first_fits.victim in
    let other = fits.second_fits.victim in
    record {
      first_fits = record { victim = omega (arith, one, more); aggressor = more_cells link.first.agg p.agg p.vic n k more fits.first_fits.aggressor };
      second_fits = record { victim = omega (arith, other, more); aggressor = more_cells link.second.agg q.agg q.vic n k more fits.second_fits.aggressor };
      victim = fits.victim;
      aggressors = fits.aggressors;
    }

chosen : (march : List MarchElement) (link : Link) (at : Bits) (words : ℕ) → IsMarch march → Detects march link → 2 ≤ words → FitsLink link (spots (first_of link at)) (spots (second_of link at)) words → Chosen march link at words
chosen march link at words is detected two fits =
    ⊎_elim
    (λ (few : words < 3).
    let exact : words ≡ 2 = omega (arith, two, few) in
    let small = subst (FitsLink link p q) exact fits in
    let found = have_spots link 3 p q (omega arith) (longer link p q words 3 (omega (arith, few)) fits) in
    let are = found.1 in
    record {
      s = found.0;
      first_is = are.first_is;
      second_is = are.second_is;
      caught = λ cells size.
          let size_two : length cells ≡ 2 = size ∙ exact in
          subst (λ (n : ℕ). SomeDiffersBy (cells_behind link found.0) (is_wrong_there link found.0) cells (visits march (up march) n)) (sym exact)
          (fewer link found.0 (subst (λ (x : Places). FitsPlace link.first x 2) (sym are.first_is) small.first_fits)
          (subst (λ (x : Places). FitsPlace link.second x 2) (sym are.second_is) small.second_fits) march is (up march) cells size_two
          (subst (λ (n : ℕ). SomeDiffersBy (cells_behind link found.0) (is_wrong_there link found.0) (cells ++ false ∷ []) (visits march (up march) n)) (longer_by cells size_two)
          (detected 3 (omega arith) (up march) found.0 (cells ++ false ∷ []) (up_fits march) are.fits (longer_by cells size_two))));
    })
    (λ (many : 3 ≤ words).
    let found = have_spots link words p q many fits in
    let are = found.1 in
    record {
      s = found.0;
      first_is = are.first_is;
      second_is = are.second_is;
      caught = λ cells size.
          subst (λ (n : ℕ). SomeDiffersBy (cells_behind link found.0) (is_wrong_there link found.0) cells (visits march (up march) n)) size
          (detected words many (up march) found.0 cells (up_fits march) are.fits size);
    })
    (cases_lt words 3)
  where
    p : Places
    p = spots (first_of link at)

    q : Places
    q = spots (second_of link at)

    longer_by : (cells : List Bool) → length cells ≡ 2 → length (cells ++ false ∷ []) ≡ 3
    longer_by cells two = let all = length-append cells (false ∷ []) in omega (arith, all, two)

pub linked_caught : (march : List MarchElement) (d : Description) → IsMarch march → IsMemory d → (link : Link) → IsLinked link → (is_retention link.first ≡ false) ⊎ (is_retention link.second ≡ false)
    → Detects march link → (at : Bits) → FitsBits link at d.words d.bits → AlwaysDiffers (linked link at) (λ s. length s ≡ d.words) march d
linked_caught march d marches is link pair alone detected at places =
    let found = chosen march link at d.words marches detected is.words_low (fits_link link at d.words d.bits places) in
    let law = lawful link at d.words d.bits places pair.first pair.second alone pair found.s found.first_is found.second_is in
    let G : List ℕ → Type 0 = Good link at d.words d.bits places pair.first pair.second alone pair found.s found.first_is found.second_is in
    record {
      lawful = law;
      differs =
          catches (linked link at) G law d.bits (cells_behind link found.s) (is_wrong_there link found.s) (lane (lane_of link at))
          (λ s v g. visits_as link at d.words d.bits places pair.first pair.second alone pair found.s found.first_is found.second_is s v)
          (λ s e g. rests_as link at d.words d.bits places pair.first pair.second alone pair found.s found.first_is found.second_is s e)
          (λ s v g wrong. wrong_as link at d.words d.bits places pair.first pair.second alone pair found.s found.first_is found.second_is s v wrong) march d refl
          (λ s g. found.caught (lane (lane_of link at) s) (length-lane (lane_of link at) s ∙ g)) is;
    }

pub linked_wrong : (march : List MarchElement) (d : Description) → IsMarch march → IsMemory d → LinkedWrong march d
linked_wrong march d marches is link pair alone detected m at has places =
    let G : List ℕ → Type 0 = λ s. length s ≡ d.words in
    answers_wrong (linked link at) G (λ s. Unit {0}) march d
    (from_any (linked link at) G march d (linked_caught march d marches is link pair alone detected at places)) is m has.words
