-- What any memory answers to the ports of a self-test is what the operations of the march on its state reply.
use Rattle.std.proofs.Common.{◌≡◌, ◌≢◌, ◌+◌, ◌<◌, ◌≤◌, ◌^◌, ◌%◌, ℕ, zero, suc, Bool, true, false, eqb, Option, Some, None, List, [], ◌∷◌, ◌++◌, drop, map, replicate, refl, ap, sym, ◌∙◌, ⊎_elim, inl, inr, arith}
use Rattle.std.specs.Prelude.{if◌then◌else◌, ◌==◌, slice_get, slice_index, bit_xor}
use Rattle.std.proofs.Math.Nat.{mod-eq_of_lt}
use Rattle.std.proofs.lemmas.Bool.{lt-ltb, le-ltb, cases_lt}
use Rattle.std.proofs.lemmas.Bool.Decides.{eqb_tells}
use Rattle.std.proofs.lemmas.Nat.{xor_lt}
use Rattle.std.proofs.lemmas.Option.{get_or_from_slice_get}
use Rattle.scrambler.specs.Scrambling.{Scrambling, logical}
use Rattle.scrambler.proofs.ScramblingLemmas.{logical-below}
use Rattle.march_core.specs.March.{MarchElement}
use Rattle.memory_desc.specs.Descriptions.{Description, IsMemory}
use Rattle.word_march.specs.declared.operations.WordOp.{WordOp}
use Rattle.word_march.specs.declared.operations.PortOp.{PortOp}
use Rattle.word_march.specs.Commands.{word_steps, word_ops, command_at}
use Rattle.word_march.specs.PortRule.{cycle_of}
use Rattle.word_march.proofs.Next.{index_fits}
use Rattle.word_march.proofs.Spread.{cycles, place, behind_pause, first_place, next_place}
use Rattle.word_device.specs.declared.device.PortCmd.{PortCmd}
use Rattle.word_device.specs.declared.shape.Shape.{Shape}
use Rattle.word_device.specs.Ports.{shape_of, index_at, addressed, shown, queued, idle_more}
use Rattle.word_device.specs.Runs.{run_slots, IsCommand, IsSlot, AreSlots, command_in}
use Rattle.word_device.proofs.Core.{operations}
use Rattle.word_device.proofs.Indexes.{index_found}
use Rattle.word_device.proofs.Porting.{one_index, InMemory, march_in_memory, op_of, twice, command_of}
use Rattle.word_device.specs.Memories.{Behaviour, Memory, acted_at, answer_at, rested, own_answer, memory_after}
use Rattle.word_device.specs.Answers.{own_answers}

-- of a read the word plays no part; idle cycles before or behind a pause, and a pause that is taken again, change nothing; and what is good stays good
pub record IsLawful {S : Type 0} (b : Behaviour S) (Good : S → Type 0) : Type 0 where
  pub same_after : (s : S) (k x y : ℕ) → b.after s (op_of false k x) ≡ b.after s (op_of false k y)
  pub same_reply : (s : S) (k x y : ℕ) → b.reply s (op_of false k x) ≡ b.reply s (op_of false k y)
  pub good_after : (s : S) (o : WordOp) → Good s → Good (b.after s o)
  pub good_idled : (s : S) → Good s → Good (b.idled s)
  pub good_paused : (s : S) → Good s → Good (b.paused s)
  pub idled_paused : (s : S) → Good s → b.paused (b.idled s) ≡ b.paused s
  pub paused_idled : (s : S) → Good s → b.idled (b.paused s) ≡ b.paused s
  pub settled : (s : S) → Good s → b.paused (b.paused s) ≡ b.paused s

-- ---- a command is its operation

finds : (d : Description) (k : ℕ) → IsMemory d → k < d.words → addressed (shape_of d) (logical d.scramble k) ≡ Some k
unfolding addressed
finds d k m inside =
    let s : Scrambling = d.scramble in
    let whole : logical s k % 2 ^ s.width ≡ logical s k = mod-eq_of_lt (logical-below s k) in
    ap (λ a. index_at s a d.words) whole
    ∙ index_found s d.words k inside (λ j l e. one_index s j k m.full m.invertible (index_fits d j m l) (index_fits d k m inside) e)

abbrev data_of : Description → WordOp → ℕ
data_of d o = bit_xor ((if o.write then bit_xor o.word d.polarity else 0) % 2 ^ d.bits) d.polarity

data_kept : (d : Description) (o : WordOp) → IsMemory d → o.word < 2 ^ d.bits → o.write ≡ true → data_of d o ≡ o.word
data_kept d o m low write =
    ap (λ (b : Bool). bit_xor ((if b then bit_xor o.word d.polarity else 0) % 2 ^ d.bits) d.polarity) write
    ∙ ap (λ x. bit_xor x d.polarity) (mod-eq_of_lt (xor_lt d.bits o.word d.polarity low m.polarity)) ∙ twice o.word d.polarity

-- the words that a command writes, where it does
data_same : (shape : Shape) (o : PortOp) (cmd : PortCmd) → IsCommand o cmd → o.write ≡ true
    → bit_xor (cmd.wdata % 2 ^ shape.bits) shape.polarity ≡ bit_xor ((if o.write then o.word else 0) % 2 ^ shape.bits) shape.polarity
data_same shape o cmd is write =
    ap (λ x. bit_xor (x % 2 ^ shape.bits) shape.polarity) (is.word write ∙ sym (ap (λ (b : Bool). if b then o.word else 0) write))

module _ {S : Type 0} (b : Behaviour S) (Good : S → Type 0) (lawful : IsLawful b Good) where
  pub state_same : (s : S) (w : Bool) (k x y : ℕ) → (w ≡ true → x ≡ y) → b.after s (op_of w k x) ≡ b.after s (op_of w k y)
  state_same s true k x y h = ap (λ z. b.after s (op_of true k z)) (h refl)
  state_same s false k x y h = lawful.same_after s k x y

  pub reply_same : (s : S) (w : Bool) (k x y : ℕ) → (w ≡ true → x ≡ y) → b.reply s (op_of w k x) ≡ b.reply s (op_of w k y)
  reply_same s true k x y h = ap (λ z. b.reply s (op_of true k z)) (h refl)
  reply_same s false k x y h = lawful.same_reply s k x y

  operation_acts : (d : Description) (o : WordOp) (s : S) → IsMemory d → o.index < d.words → o.word < 2 ^ d.bits
      → acted_at b (shape_of d) s (command_of d o) (addressed (shape_of d) (logical d.scramble o.index)) ≡ b.after s o
  operation_acts d o s m inside low =
      ap (acted_at b (shape_of d) s (command_of d o)) (finds d o.index m inside) ∙ state_same s o.write o.index (data_of d o) o.word (data_kept d o m low)

  operation_answers : (d : Description) (o : WordOp) (s : S) → IsMemory d → o.index < d.words → o.word < 2 ^ d.bits
      → answer_at b (shape_of d) s (command_of d o) (addressed (shape_of d) (logical d.scramble o.index)) ≡ shown o.write d.polarity (b.reply s o)
  operation_answers d o s m inside low =
      ap (answer_at b (shape_of d) s (command_of d o)) (finds d o.index m inside)
      ∙ ap (shown o.write d.polarity) (reply_same s o.write o.index (data_of d o) o.word (data_kept d o m low))

  -- ---- of a read the data at the port play no part, and of an idle cycle neither does the rest

  abbrev next : Memory S → S → ℕ → ℕ → Memory S
  next m s own idle = record { state = s; pending = drop 1 (queued m.pending own); idle = idle }

  acts_same : (shape : Shape) (s : S) (o : PortOp) (cmd : PortCmd) → IsCommand o cmd
      → acted_at b shape s cmd (addressed shape cmd.addr) ≡ acted_at b shape s (command_in (Some o)) (addressed shape o.addr)
  acts_same shape s o cmd is = ap (λ a. acted_at b shape s cmd (addressed shape a)) is.address ∙ go (addressed shape o.addr)
    where
      go : (at : Option ℕ) → acted_at b shape s cmd at ≡ acted_at b shape s (command_in (Some o)) at
      go None = refl
      go (Some k) =
          ap (λ w. b.after s (op_of w k (bit_xor (cmd.wdata % 2 ^ shape.bits) shape.polarity))) is.write
          ∙ state_same s o.write k _ _ (data_same shape o cmd is)

  answers_same : (shape : Shape) (s : S) (o : PortOp) (cmd : PortCmd) → IsCommand o cmd
      → answer_at b shape s cmd (addressed shape cmd.addr) ≡ answer_at b shape s (command_in (Some o)) (addressed shape o.addr)
  answers_same shape s o cmd is = ap (λ a. answer_at b shape s cmd (addressed shape a)) is.address ∙ go (addressed shape o.addr)
    where
      go : (at : Option ℕ) → answer_at b shape s cmd at ≡ answer_at b shape s (command_in (Some o)) at
      go None = refl
      go (Some k) =
          ap (λ w. shown w shape.polarity (b.reply s (op_of w k (bit_xor (cmd.wdata % 2 ^ shape.bits) shape.polarity)))) is.write
          ∙ ap (shown o.write shape.polarity) (reply_same s o.write k _ _ (data_same shape o cmd is))

  own_same : (shape : Shape) (m : Memory S) (x : Option PortOp) (cmd : PortCmd) → IsSlot x cmd → own_answer b shape m cmd ≡ own_answer b shape m (command_in x)
  own_same shape m None cmd off = ap (λ (t : Bool). if t then answer_at b shape m.state cmd (addressed shape cmd.addr) else 0) off
  own_same shape m (Some o) cmd is =
      ap (λ (t : Bool). if t then answer_at b shape m.state cmd (addressed shape cmd.addr) else 0) is.enabled ∙ answers_same shape m.state o cmd is

  memory_same : (shape : Shape) (m : Memory S) (x : Option PortOp) (cmd : PortCmd) → IsSlot x cmd → memory_after b shape m cmd ≡ memory_after b shape m (command_in x)
  memory_same shape m None cmd off =
      let acted : S = acted_at b shape m.state cmd (addressed shape cmd.addr) in
      let still : S = rested b shape m.state m.idle in
      ap (λ (t : Bool). next m (if t then acted else still) (own_answer b shape m cmd) (if t then 0 else idle_more shape m.idle)) off
      ∙ ap (λ own. next m still own (idle_more shape m.idle)) (own_same shape m None cmd off)
  memory_same shape m (Some o) cmd is =
      let acted : S = acted_at b shape m.state cmd (addressed shape cmd.addr) in
      let still : S = rested b shape m.state m.idle in
      ap (λ (t : Bool). next m (if t then acted else still) (own_answer b shape m cmd) (if t then 0 else idle_more shape m.idle)) is.enabled
      ∙ ap (λ own. next m acted own 0) (own_same shape m (Some o) cmd is)
      ∙ ap (λ s. next m s (own_answer b shape m (command_in (Some o))) 0) (acts_same shape m.state o cmd is)

  pub answers_of_slots : (shape : Shape) (ss : List (Option PortOp)) (cmds : List PortCmd) → AreSlots ss cmds → (m : Memory S)
      → own_answers b shape m cmds ≡ own_answers b shape m (map command_in ss)
  unfolding own_answers
  answers_of_slots shape [] [] are m = refl
  answers_of_slots shape [] (cmd ∷ cmds) are m = absurd are
  answers_of_slots shape (x ∷ ss) [] are m = absurd are
  answers_of_slots shape (x ∷ ss) (cmd ∷ cmds) are m =
      ap (λ own. own ∷ own_answers b shape (memory_after b shape m cmd) cmds) (own_same shape m x cmd are.0)
      ∙ ap (λ c. own_answer b shape m (command_in x) ∷ own_answers b shape c cmds) (memory_same shape m x cmd are.0)
      ∙ ap (λ l. own_answer b shape m (command_in x) ∷ l) (answers_of_slots shape ss cmds are.1 (memory_after b shape m (command_in x)))

  -- ---- idle cycles

  abbrev memory_of : S → List ℕ → ℕ → Memory S
  memory_of s pending idle = record { state = s; pending = pending; idle = idle }

  abbrev idle_state : Shape → ℕ → S → ℕ → S
  idle_state shape zero s a = s
  idle_state shape (suc n) s a = idle_state shape n (rested b shape s a) (idle_more shape a)

  abbrev idle_pending : ℕ → List ℕ → List ℕ
  idle_pending zero pending = pending
  idle_pending (suc n) pending = idle_pending n (drop 1 (queued pending 0))

  abbrev idle_count : Shape → ℕ → ℕ → ℕ
  idle_count shape zero a = a
  idle_count shape (suc n) a = idle_count shape n (idle_more shape a)

  answers_behind : (shape : Shape) (n k : ℕ) (rest : List (Option PortOp)) (s : S) (pending : List ℕ) (a : ℕ)
      → slice_get (own_answers b shape (memory_of s pending a) (map command_in (replicate n None ++ rest))) (n + k)
      ≡ slice_get (own_answers b shape (memory_of (idle_state shape n s a) (idle_pending n pending) (idle_count shape n a)) (map command_in rest)) k
  unfolding own_answers
  answers_behind shape zero k rest s pending a =
      let same : 0 + k ≡ k = omega arith in
      ap (slice_get (own_answers b shape (memory_of s pending a) (map command_in rest))) same
  answers_behind shape (suc n) k rest s pending a =
      let on : suc n + k ≡ suc (n + k) = omega arith in
      ap (slice_get (own_answers b shape (memory_of s pending a) (map command_in (replicate (suc n) None ++ rest)))) on
      ∙ answers_behind shape n k rest (rested b shape s a) (drop 1 (queued pending 0)) (idle_more shape a)

  rested_settled : (shape : Shape) (s : S) (a : ℕ) → b.paused s ≡ s → b.idled s ≡ s → rested b shape s a ≡ s
  rested_settled shape s a settled still = go (idle_more shape a == shape.pause)
    where
      go : (t : Bool) → (if t then b.paused s else b.idled s) ≡ s
      go true = settled
      go false = still

  idle_settled : (shape : Shape) (n : ℕ) (s : S) (a : ℕ) → b.paused s ≡ s → b.idled s ≡ s → idle_state shape n s a ≡ s
  idle_settled shape zero s a settled still = refl
  idle_settled shape (suc n) s a settled still =
      ap (λ x. idle_state shape n x (idle_more shape a)) (rested_settled shape s a settled still) ∙ idle_settled shape n s (idle_more shape a) settled still

  still_counting : (shape : Shape) (a : ℕ) → idle_more shape a ≢ shape.pause → (idle_more shape a ≡ a + 1) × (a + 1 < shape.pause)
  still_counting shape a other = elim (cases_lt a shape.pause) [
    | inl l ↦ (
        let more : idle_more shape a ≡ a + 1 = ap (λ (t : Bool). if t then a + 1 else shape.pause) (lt-ltb a shape.pause l) in
        let apart : a + 1 ≢ shape.pause = λ e. other (more ∙ e) in
        (more, omega arith))
    | inr l ↦ absurd (other (ap (λ (t : Bool). if t then a + 1 else shape.pause) (le-ltb a shape.pause l)))
  ]

  idle_paused : (shape : Shape) (n : ℕ) (s : S) (a : ℕ) → Good s → 1 ≤ n → shape.pause ≤ a + n → idle_state shape n s a ≡ b.paused s
  idle_paused shape zero s a good some reached = absurd (omega arith)
  idle_paused shape (suc n) s a good some reached =
      ⊎_elim
      (λ (h : (eqb (idle_more shape a) shape.pause ≡ true) × (idle_more shape a ≡ shape.pause)).
      ap (λ (t : Bool). idle_state shape n (if t then b.paused s else b.idled s) (idle_more shape a)) h.0
      ∙ idle_settled shape n (b.paused s) (idle_more shape a) (lawful.settled s good) (lawful.paused_idled s good))
      (λ (h : (eqb (idle_more shape a) shape.pause ≡ false) × (idle_more shape a ≢ shape.pause)).
      let count = still_counting shape a h.1 in
      let low : a + 1 < shape.pause = count.1 in
      ap (λ (t : Bool). idle_state shape n (if t then b.paused s else b.idled s) (idle_more shape a)) h.0
      ∙ ap (idle_state shape n (b.idled s)) count.0
      ∙ idle_paused shape n (b.idled s) (a + 1) (lawful.good_idled s good) (omega arith) (omega arith) ∙ lawful.idled_paused s good)
      (eqb_tells (idle_more shape a) shape.pause)

  -- ---- the run

  -- the replies to the operations
  abbrev pub replies : S → List (Option WordOp) → List ℕ
  replies s [] = []
  replies s (None ∷ ss) = replies (b.paused s) ss
  replies s (Some o ∷ ss) = b.reply s o ∷ replies (b.after s o) ss

  pub answer_in_run : (d : Description) → IsMemory d → (ss : List (Option WordOp)) → InMemory d.words d.bits (operations ss)
      → (s : S) (pending : List ℕ) (a : ℕ) → Good s → (j : ℕ) (o : WordOp) (r : ℕ) → slice_get (operations ss) j ≡ Some o → slice_get (replies s ss) j ≡ Some r
      → slice_get (own_answers b (shape_of d) (memory_of s pending a) (map command_in (cycles d ss))) (place d ss j) ≡ Some (shown o.write d.polarity r)
  unfolding own_answers
  answer_in_run d m [] within s pending a good j o r op reply = cc
  answer_in_run d m (None ∷ ss) within s pending a good j o r op reply =
      let shape : Shape = shape_of d in
      let low = m.pause_low in
      let rest : List (Option PortOp) = cycles d ss in
      let paused : S = b.paused s in
      let after : List ℕ = idle_pending d.pause pending in
      let count : ℕ = idle_count shape d.pause a in
      ap (slice_get (own_answers b shape (memory_of s pending a) (map command_in (cycles d (None ∷ ss))))) (behind_pause d ss j)
      ∙ answers_behind shape d.pause (place d ss j) rest s pending a
      ∙ ap (λ x. slice_get (own_answers b shape (memory_of x after count) (map command_in rest)) (place d ss j)) (idle_paused shape d.pause s a good low (omega arith))
      ∙ answer_in_run d m ss within paused after count (lawful.good_paused s good) j o r op reply
  answer_in_run d m (Some x ∷ ss) within s pending a good zero o r op reply =
      let shape : Shape = shape_of d in
      let same : x ≡ o = cc in
      let is : b.reply s x ≡ r = cc in
      ap (slice_get (own_answers b shape (memory_of s pending a) (map command_in (cycles d (Some x ∷ ss))))) (first_place d x ss)
      ∙ ap Some (operation_answers d x s m within.0 within.1 ∙ ap (λ (y : WordOp). shown y.write d.polarity (b.reply s x)) same ∙ ap (shown o.write d.polarity) is)
  answer_in_run d m (Some x ∷ ss) within s pending a good (suc j) o r op reply =
      let shape : Shape = shape_of d in
      let memory : Memory S = memory_of s pending a in
      let after : List ℕ = drop 1 (queued pending (own_answer b shape memory (command_of d x))) in
      let then_ : S = b.after s x in
      ap (slice_get (own_answers b shape memory (map command_in (cycles d (Some x ∷ ss))))) (next_place d x ss j)
      ∙ ap (λ y. slice_get (own_answers b shape (memory_of y after 0) (map command_in (cycles d ss))) (place d ss j)) (operation_acts d x s m within.0 within.1)
      ∙ answer_in_run d m ss within.2 then_ after 0 (lawful.good_after s x good) j o r op reply

  -- what the memory alone answers to the run
  unfoldable pub run_answers : List MarchElement → Description → Memory S → List ℕ
  run_answers march d m = own_answers b (shape_of d) m (map command_in (run_slots march d))

  unfoldable pub begun : Description → Memory S → S
  begun d m = rested b (shape_of d) m.state m.idle

  pub good_begun : (d : Description) (m : Memory S) → Good m.state → Good (begun d m)
  unfolding begun
  good_begun d m good = go (idle_more (shape_of d) m.idle == d.pause)
    where
      go : (t : Bool) → Good (if t then b.paused m.state else b.idled m.state)
      go true = lawful.good_paused m.state good
      go false = lawful.good_idled m.state good

  -- the answer to a read shows the reply to its operation
  pub reply_shown : (march : List MarchElement) (d : Description) (m : Memory S) → IsMemory d → Good m.state → (j : ℕ) (o : WordOp) (r : ℕ)
      → slice_get (word_ops march d) j ≡ Some o → o.write ≡ false → slice_get (replies (begun d m) (word_steps march d)) j ≡ Some r
      → slice_index (run_answers march d m) (cycle_of march d j) ≡ bit_xor r d.polarity
  unfolding begun run_answers own_answers
  reply_shown march d m is good j o r op read reply =
      let next_ : ℕ = command_at march d j in
      let on : cycle_of march d j ≡ suc next_ = omega arith in
      let found = answer_in_run d is (word_steps march d) (march_in_memory march d is) (rested b (shape_of d) m.state m.idle) _ _ (good_begun d m good) j o r op reply in
      ap (slice_index (own_answers b (shape_of d) m (map command_in (run_slots march d)))) on ∙ get_or_from_slice_get _ next_ _ 0 found
      ∙ ap (λ (w : Bool). shown w d.polarity r) read
