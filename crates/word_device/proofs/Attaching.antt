-- Ports that keep the rule beside any memory end with `fail` where it answers some read wrong, and it does where some reply differs.
use Rattle.std.proofs.Common.{◌≡◌, ◌+◌, ◌<◌, ◌≤◌, ◌^◌, ◌%◌, ◌==◌, ℕ, zero, suc, Bool, true, false, Option, Some, List, [], ◌∷◌, ◌++◌, drop, length, map, refl, ap, sym, subst, ◌∙◌, arith, length-append}
use Rattle.std.specs.Prelude.{if◌then◌else◌, slice_get, slice_index, bit_xor}
use Rattle.std.specs.List.{range_with_len}
use Rattle.std.proofs.Math.Nat.{mod-eq_of_lt}
use Rattle.std.proofs.lemmas.List.{get_or_append_left, get_or-append-add}
use Rattle.std.proofs.lemmas.Nat.{xor_mod}
use Rattle.std.proofs.lemmas.Option.{slice_get_within}
use Rattle.march_core.specs.March.{MarchElement}
use Rattle.memory_desc.specs.Descriptions.{Description, IsMemory}
use Rattle.word_march.specs.declared.operations.WordOp.{WordOp}
use Rattle.word_march.specs.Commands.{word_steps, word_ops, port_op, port_ops, span, command_count}
use Rattle.word_march.specs.PortRule.{PortValues, PortRule, cycle_of}
use Rattle.word_device.specs.declared.device.PortCmd.{PortCmd}
use Rattle.word_device.specs.declared.shape.Shape.{Shape}
use Rattle.word_device.specs.Memories.{Behaviour, Memory, acted_at, own_answer, cycle_answer}
use Rattle.word_device.specs.Ports.{shape_of, addressed, idle_more, queued}
use Rattle.word_device.specs.Runs.{run_slots, IsSlot, AreSlots, answer_to, IsWrong}
use Rattle.word_device.specs.Joint.{command_on, EndsFailing}
use Rattle.word_device.specs.Answers.{memory_at, own_answers, AnswersWrong}
use Rattle.word_device.proofs.Core.{SomeReplyDiffers}
use Rattle.word_device.proofs.Cycles.{length-slots, at_within}
use Rattle.word_device.proofs.Porting.{twice}
use Rattle.word_device.proofs.Joining.{port_slot, slots_from}
use Rattle.word_device.proofs.Answering.{IsLawful, answers_of_slots, replies, run_answers, begun, good_begun, reply_shown}

-- ---- commands and words

pub command_of_operation : (d : Description) (os : List WordOp) (j : ℕ) (o : WordOp) → slice_get os j ≡ Some o
    → slice_get (map (port_op d) os) j ≡ Some (port_op d o)
command_of_operation d [] j o e = cc
command_of_operation d (x ∷ os) zero o e = let same : x ≡ o = cc in ap (λ y. Some (port_op d y)) same
command_of_operation d (x ∷ os) (suc j) o e = command_of_operation d os j o e

-- the low bits of a word that is shown
same_shown : (a b p : ℕ) → bit_xor a p ≡ bit_xor b p → a ≡ b
same_shown a b p e = sym (twice a p) ∙ ap (λ n. bit_xor n p) e ∙ twice b p

pub low_shown : (bits polarity r word : ℕ) → polarity < 2 ^ bits → bit_xor r polarity % 2 ^ bits ≡ bit_xor word polarity → r % 2 ^ bits ≡ word
low_shown bits polarity r word fits e =
    let low : polarity % 2 ^ bits ≡ polarity = mod-eq_of_lt fits in
    same_shown (r % 2 ^ bits) word polarity (ap (bit_xor (r % 2 ^ bits)) (sym low) ∙ sym (xor_mod r polarity bits) ∙ e)

length-queued : (xs : List ℕ) (x : ℕ) → length (drop 1 (queued xs x)) ≡ length xs
length-queued [] x = refl
length-queued (y ∷ ys) x = let both = length-append ys (x ∷ []) in omega arith

-- in each cycle up to the last the ports keep their rule, and the word on `rdata` is the low bits of what the memory answered in the cycle before
pub record Attached {S : Type 0} (b : Behaviour S) (march : List MarchElement) (d : Description) (m : Memory S) (q : ℕ → PortValues) (returned : ℕ → ℕ) (last : ℕ) : Type 0 where
  pub under_way : length m.pending + 1 ≡ d.latency
  pub rule : (t : ℕ) → t ≤ last → PortRule march d returned t (q t)
  pub answer : (t : ℕ) → t < last → returned (suc t) ≡ cycle_answer b (shape_of d) (memory_at b (shape_of d) m q t) (command_on (q t)) % 2 ^ d.bits
  pub late : span march d + 1 + d.latency ≤ last

module _ {S : Type 0} (b : Behaviour S) (m : Memory S) (q : ℕ → PortValues) where
  -- ---- the answers, cycle by cycle

  abbrev own_at : Shape → ℕ → ℕ
  own_at shape t = own_answer b shape (memory_at b shape m q t) (command_on (q t))

  abbrev pending_at : Shape → ℕ → List ℕ
  pending_at shape t = (memory_at b shape m q t).pending

  abbrev commands_from : ℕ → ℕ → List PortCmd
  commands_from a n = map (λ t. command_on (q t)) (range_with_len a n)

  own_in : (shape : Shape) (n a t : ℕ) → t < n → slice_index (own_answers b shape (memory_at b shape m q a) (commands_from a n)) t ≡ own_at shape (a + t)
  unfolding own_answers
  own_in shape zero a t within = absurd (omega arith)
  own_in shape (suc n) a zero within = let same : a ≡ a + 0 = omega arith in ap (own_at shape) same
  own_in shape (suc n) a (suc t) within =
      let next : suc a ≡ a + 1 = omega arith in
      let there : a + 1 + t ≡ a + suc t = omega arith in
      ap (λ k. slice_index (own_answers b shape (memory_at b shape m q k) (commands_from (a + 1) n)) t) next
      ∙ own_in shape n (a + 1) t (omega arith) ∙ ap (own_at shape) there

  length-pending : (shape : Shape) (t : ℕ) → length (pending_at shape t) ≡ length m.pending
  length-pending shape zero = refl
  length-pending shape (suc t) = length-queued (pending_at shape t) (own_at shape t) ∙ length-pending shape t

  -- an answer moves one place to the front in each cycle
  moved : (xs : List ℕ) (x y k : ℕ) → k < length xs → slice_index (queued (drop 1 (queued xs x)) y) k ≡ slice_index (queued xs x) (suc k)
  moved [] x y k within = absurd (omega arith)
  moved (z ∷ zs) x y k within =
      let both = length-append zs (x ∷ []) in
      get_or_append_left (zs ++ x ∷ []) (y ∷ []) 0 k (omega arith)

  waiting : (shape : Shape) (k j t : ℕ) → k + j ≡ length m.pending → slice_index (queued (pending_at shape (t + k)) (own_at shape (t + k))) j ≡ own_at shape t
  waiting shape zero j t whole =
      let same : t + 0 ≡ t = omega arith in
      let size = length-pending shape t in
      let last : j ≡ length (pending_at shape t) + 0 = omega arith in
      ap (λ n. slice_index (queued (pending_at shape n) (own_at shape n)) j) same
      ∙ ap (slice_index (queued (pending_at shape t) (own_at shape t))) last
      ∙ get_or-append-add (pending_at shape t) (own_at shape t ∷ []) 0 0
  waiting shape (suc k) j t whole =
      let there : t + suc k ≡ suc (t + k) = omega arith in
      let size = length-pending shape (t + k) in
      ap (λ n. slice_index (queued (pending_at shape n) (own_at shape n)) j) there
      ∙ moved (pending_at shape (t + k)) (own_at shape (t + k)) (own_at shape (suc (t + k))) j (omega arith)
      ∙ waiting shape k (suc j) t (omega arith)

  delayed : (shape : Shape) (t : ℕ) → cycle_answer b shape (memory_at b shape m q (t + length m.pending)) (command_on (q (t + length m.pending))) ≡ own_at shape t
  delayed shape t = let whole : length m.pending + 0 ≡ length m.pending = omega arith in waiting shape (length m.pending) 0 t whole

  -- ---- the words that return

  module _ (march : List MarchElement) (d : Description) (returned : ℕ → ℕ) (last : ℕ) (attached : Attached b march d m q returned last) where
    attached_slots : AreSlots (run_slots march d) (commands_from 0 (length (run_slots march d)))
    attached_slots =
        let late = attached.late in
        slots_from (run_slots march d) (λ t. command_on (q t)) 0 (λ t s at.
        let within : t < length (run_slots march d) = slice_get_within (run_slots march d) t s at in
        let size = length-slots march d in
        let same : t ≡ 0 + t = omega arith in
        let soon : t ≤ last = omega arith in
        subst (λ (k : ℕ). IsSlot s (command_on (q k))) same (port_slot march d returned t s (q t) (attached.rule t soon) at))

    -- what returns to a read is what the memory answered to it
    returns : (j : ℕ) → j < command_count march d
        → returned (cycle_of march d j + d.latency) ≡ answer_to march d (own_answers b (shape_of d) m (commands_from 0 (length (run_slots march d)))) j % 2 ^ d.bits
    returns j within =
        let c : ℕ = cycle_of march d j in
        let p : ℕ = length m.pending in
        let soon = at_within march d j within in
        let late = attached.late in
        let under_way = attached.under_way in
        let size = length-slots march d in
        let then_ : c + d.latency ≡ suc (c + p) = omega arith in
        let same : 0 + c ≡ c = omega arith in
        let low : ℕ → ℕ = λ n. n % 2 ^ d.bits in
        ap returned then_ ∙ attached.answer (c + p) (omega arith) ∙ ap low (delayed (shape_of d) c)
        ∙ ap low (sym (own_in (shape_of d) (length (run_slots march d)) 0 c (omega arith) ∙ ap (own_at (shape_of d)) same))

    -- where some read is answered wrong, the test ends with `fail`
    pub wrong_fails : AnswersWrong march d S b m → EndsFailing (q last)
    wrong_fails wrong =
        let found = wrong (commands_from 0 (length (run_slots march d))) attached_slots in
        let is : IsWrong march d (λ j. answer_to march d (own_answers b (shape_of d) m (commands_from 0 (length (run_slots march d)))) j % 2 ^ d.bits) found.0 = found.1 in
        let late = attached.late in
        let here = attached.rule last (omega arith) in
        let within = slice_get_within (port_ops march d) found.0 is.command is.is_command in
        let soon = at_within march d found.0 within in
        record {
          done = here.done.1 late;
          fail = (here.fail (omega arith)).1 (record {
            number = found.0;
            command = is.command;
            is_command = is.is_command;
            is_read = is.is_read;
            before = omega arith;
            differs = λ same. is.differs (sym (returns found.0 within) ∙ same);
          });
        }

-- ---- where the operations of the march have a reply that differs

-- a lawful memory that, from each good state, has some reply that differs
pub record AlwaysDiffers {S : Type 0} (b : Behaviour S) (Good : S → Type 0) (march : List MarchElement) (d : Description) : Type 0 where
  pub lawful : IsLawful b Good
  pub differs : (s : S) → Good s → SomeReplyDiffers d.bits (word_steps march d) (replies b Good lawful s (word_steps march d))

-- or from each that an idle cycle leaves
pub record DiffersRested {S : Type 0} (b : Behaviour S) (Good Rested : S → Type 0) (march : List MarchElement) (d : Description) : Type 0 where
  pub lawful : IsLawful b Good
  pub idled : (s : S) → Rested (b.idled s)
  pub paused : (s : S) → Rested (b.paused s)
  pub differs : (s : S) → Good s → Rested s → SomeReplyDiffers d.bits (word_steps march d) (replies b Good lawful s (word_steps march d))

pub from_any : {S : Type 0} (b : Behaviour S) (Good : S → Type 0) (march : List MarchElement) (d : Description) → AlwaysDiffers b Good march d
    → DiffersRested b Good (λ s. Unit {0}) march d
from_any b Good march d caught = record { lawful = caught.lawful; idled = λ s. tt; paused = λ s. tt; differs = λ s good rested. caught.differs s good }

module _ {S : Type 0} (b : Behaviour S) (Good Rested : S → Type 0) (march : List MarchElement) (d : Description) (caught : DiffersRested b Good Rested march d) (is : IsMemory d) where
  rested_begun : (m : Memory S) → Rested (begun b Good caught.lawful d m)
  unfolding begun
  rested_begun m = go (idle_more (shape_of d) m.idle == d.pause)
    where
      go : (t : Bool) → Rested (if t then b.paused m.state else b.idled m.state)
      go true = caught.paused m.state
      go false = caught.idled m.state

  -- it answers some read wrong
  pub answers_wrong : (m : Memory S) → Good m.state → AnswersWrong march d S b m
  unfolding run_answers
  answers_wrong m good cmds are =
      let found = caught.differs (begun b Good caught.lawful d m) (good_begun b Good caught.lawful d m good) (rested_begun m) in
      let shows : answer_to march d (own_answers b (shape_of d) m cmds) found.number ≡ bit_xor found.reply d.polarity =
      ap (λ (l : List ℕ). answer_to march d l found.number) (answers_of_slots b Good caught.lawful (shape_of d) (run_slots march d) cmds are m)
      ∙ reply_shown b Good caught.lawful march d m is good found.number found.op found.reply found.is_op found.is_read found.is_reply in (
        found.number,
        record {
          command = port_op d found.op;
          is_command = command_of_operation d (word_ops march d) found.number found.op found.is_op;
          is_read = found.is_read;
          differs = λ same. found.differs (low_shown d.bits d.polarity found.reply found.op.word is.polarity (ap (λ (n : ℕ). n % 2 ^ d.bits) (sym shows) ∙ same));
        },
      )

  -- and so it does behind cycles in which nothing is enabled
  good_at : (q : ℕ → PortValues) (m : Memory S) (s : ℕ) → ((t : ℕ) → t < s → (q t).en ≡ false) → Good m.state → Good (memory_at b (shape_of d) m q s).state
  good_at q m zero off good = good
  good_at q m (suc s) off good =
      let before : Memory S = memory_at b (shape_of d) m q s in
      go (q s).en (off s (omega arith)) (addressed (shape_of d) (q s).addr) (idle_more (shape_of d) before.idle == d.pause) before.state
      (good_at q m s (λ t l. off t (omega arith)) good)
    where
      go : (en : Bool) → en ≡ false → (at : Option ℕ) (t : Bool) (x : S) → Good x
          → Good (if en then acted_at b (shape_of d) x (command_on (q s)) at else (if t then b.paused x else b.idled x))
      go true e at t x h = cc
      go false e at true x h = caught.lawful.good_paused x h
      go false e at false x h = caught.lawful.good_idled x h

  pub wrong_at : (q : ℕ → PortValues) (m : Memory S) (s : ℕ) → ((t : ℕ) → t < s → (q t).en ≡ false) → Good m.state → AnswersWrong march d S b (memory_at b (shape_of d) m q s)
  wrong_at q m s off good = answers_wrong (memory_at b (shape_of d) m q s) (good_at q m s off good)

-- as many answers are under way in each cycle
pub way_at : {S : Type 0} (b : Behaviour S) (shape : Shape) (m : Memory S) (q : ℕ → PortValues) (s : ℕ) → length (memory_at b shape m q s).pending ≡ length m.pending
way_at b shape m q zero = refl
way_at b shape m q (suc s) =
    let before = memory_at b shape m q s in
    length-queued before.pending (own_answer b shape before (command_on (q s))) ∙ way_at b shape m q s
