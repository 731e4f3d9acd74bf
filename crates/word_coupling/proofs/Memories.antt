-- A memory with a detected instance in one word, in either reading, answers some read wrong.
use Rattle.std.proofs.Common.{◌≡◌, ◌<◌, ℕ, suc, Bool, true, false, ◌||◌, Some, None, Option, List, [], ◌∷◌, length, refl, ap, sym, subst, ◌∙◌}
use Rattle.std.specs.Prelude.{if◌then◌else◌, slice_set, slice_index}
use Rattle.std.proofs.lemmas.List.{length-set}
use Rattle.fault_core.specs.Primitive.{Primitive, IsPrimitive}
use Rattle.march_core.specs.March.{MarchElement}
use Rattle.memory_desc.specs.Descriptions.{Description, IsMemory}
use Rattle.word_march.specs.declared.operations.WordOp.{WordOp}
use Rattle.word_march.specs.Commands.{word_steps}
use Rattle.word_device.specs.declared.device.Planted.{Planted}
use Rattle.word_device.specs.Chips.{with_bit, with_bit_in, closed_words, matches, plain_words, paused_words, words_after, reply_to}
use Rattle.word_device.specs.Answers.{IsWhole}
use Rattle.word_device.proofs.Closed.{closed_twice, length-closed_words}
use Rattle.word_device.proofs.Core.{SomeReplyDiffers}
use Rattle.word_device.proofs.Porting.{op_of, matches_read, reply_same}
use Rattle.word_device.proofs.Answering.{IsLawful, replies}
use Rattle.word_device.proofs.Attaching.{AlwaysDiffers, from_any, answers_wrong}
use Rattle.word_device.proofs.Wholes.{whole_stepped, settles_of, whole_planted}
use Rattle.word_coupling.specs.declared.reading.Reading.{Reading}
use Rattle.word_coupling.specs.declared.reading.Reading.TheVariants.{Before, Behind}
use Rattle.word_coupling.specs.Words.{in_word, AreBits, found_in, words_by, is_wrong, is_caught, DetectsBy}
use Rattle.word_coupling.specs.Memories.{read_by, InWordWrong, EachInWordWrong, BeforeIsPlanted}
use Rattle.word_coupling.proofs.Failing.{wrong_differs}

pub before_planted : BeforeIsPlanted
unfolding words_after
before_planted i words = record { after = λ o. refl; reply = λ o. refl; paused = refl }

length_if : (b : Bool) (xs ys : List ℕ) (n : ℕ) → length xs ≡ n → length ys ≡ n → length (if b then xs else ys) ≡ n
length_if true xs ys n hx hy = hx
length_if false xs ys n hx hy = hy

-- of a read the word plays no part
found_read : (r : Reading) (i : Planted) (ws : List ℕ) (k x y : ℕ) → matches i (found_in r i ws (op_of false k x)) (op_of false k x) ≡ matches i (found_in r i ws (op_of false k y)) (op_of false k y)
found_read Before i ws k x y = matches_read i ws k x y
found_read Behind i ws k x y = matches_read i (found_in Behind i ws (op_of false k x)) k x y

module _ (r : Reading) (d : Description) (i : Planted) (is : IsPrimitive i.prim) (inside : i.vic.word < d.words) where
  length_effect : (ws : List ℕ) (o : WordOp) (n : ℕ) → length ws ≡ n
      → length (if matches i (found_in r i ws o) o then with_bit_in (plain_words ws o) i.vic i.prim.after else plain_words ws o) ≡ n
  length_effect ws o n size =
      let plain : length (plain_words ws o) ≡ n = length_if o.write (slice_set ws o.index o.word) ws n (length-set ws o.index o.word ∙ size) size in
      length_if (matches i (found_in r i ws o) o) (with_bit_in (plain_words ws o) i.vic i.prim.after) (plain_words ws o) n
      (length-set (plain_words ws o) i.vic.word (with_bit (slice_index (plain_words ws o) i.vic.word) i.vic.bit i.prim.after) ∙ plain) plain

  whole_after : (ws : List ℕ) (o : WordOp) → IsWhole d (Some i) ws → IsWhole d (Some i) (words_by r i ws o)
  whole_after ws o h =
      let left : List ℕ = if matches i (found_in r i ws o) o then with_bit_in (plain_words ws o) i.vic i.prim.after else plain_words ws o in
      let size : length left ≡ d.words = length_effect ws o d.words h.size in
      record { size = length-closed_words i left ∙ size; closed = closed_twice i left is (subst (λ (n : ℕ). i.vic.word < n) (sym size) inside) }

  lawful : IsLawful (read_by r i) (IsWhole d (Some i))
  lawful = record {
    same_after = λ s k x y. ap (λ t. closed_words i (if t then with_bit_in s i.vic i.prim.after else s)) (found_read r i s k x y);
    same_reply = λ s k x y. reply_same (Some i) s false k x y (λ e. cc);
    good_after = λ s o good. whole_after s o good;
    good_idled = λ s good. good;
    good_paused = λ s good. whole_stepped d (Some i) (is, inside) s None good;
    idled_paused = λ s good. refl;
    paused_idled = λ s good. refl;
    settled = λ s good. settles_of d (Some i) (is, inside) s good.size;
  }

  abbrev Differs : List (Option WordOp) → List ℕ → Type 0
  Differs steps ws = SomeReplyDiffers d.bits steps (replies (read_by r i) (IsWhole d (Some i)) lawful ws steps)

  later : (o : WordOp) (steps : List (Option WordOp)) (ws : List ℕ) → Differs steps (words_by r i ws o) → Differs (Some o ∷ steps) ws
  later o steps ws x = record { number = suc x.number; op = x.op; reply = x.reply; is_op = x.is_op; is_read = x.is_read; is_reply = x.is_reply; differs = x.differs }

  -- what is caught has a reply that differs
  caught_differs : (steps : List (Option WordOp)) (ws : List ℕ) → is_caught r d.bits i steps ws ≡ true → Differs steps ws
  caught_differs [] ws caught = cc
  caught_differs (None ∷ steps) ws caught =
      let x : Differs steps (paused_words i ws) = caught_differs steps (paused_words i ws) caught in
      record { number = x.number; op = x.op; reply = x.reply; is_op = x.is_op; is_read = x.is_read; is_reply = x.is_reply; differs = x.differs }
  caught_differs (Some o ∷ steps) ws caught =
      go (λ there. later o steps ws (caught_differs steps (words_by r i ws o) there)) (is_wrong d.bits o (reply_to (Some i) ws o)) refl caught
    where
      go : (is_caught r d.bits i steps (words_by r i ws o) ≡ true → Differs (Some o ∷ steps) ws)
          → (b : Bool) → is_wrong d.bits o (reply_to (Some i) ws o) ≡ b → (b || is_caught r d.bits i steps (words_by r i ws o)) ≡ true
          → Differs (Some o ∷ steps) ws
      go rest false is there = rest there
      go rest true is here =
          let wrong = wrong_differs d.bits o (reply_to (Some i) ws o) is in
          record { number = 0; op = o; reply = reply_to (Some i) ws o; is_op = refl; is_read = wrong.0; is_reply = refl; differs = wrong.1 }

pub in_word_caught : (march : List MarchElement) (d : Description) (p : Primitive) (r : Reading) → IsPrimitive p → DetectsBy r march d p → (word agg vic : ℕ) → AreBits d word agg vic
    → AlwaysDiffers (read_by r (in_word p word agg vic)) (IsWhole d (Some (in_word p word agg vic))) march d
in_word_caught march d p r is detects word agg vic bits =
    let i : Planted = in_word p word agg vic in
    record {
      lawful = lawful r d i is bits.word_within;
      differs = λ s good.
          caught_differs r d i is bits.word_within (word_steps march d) s
          (ap (is_caught r d.bits i (word_steps march d)) (sym good.closed) ∙ detects word agg vic s bits good.size);
    }

pub in_word_wrong : (march : List MarchElement) (d : Description) → IsMemory d → InWordWrong march d
in_word_wrong march d m p r is detects memory word agg vic has bits =
    let i : Planted = in_word p word agg vic in
    answers_wrong (read_by r i) (IsWhole d (Some i)) (λ s. Unit {0}) march d
    (from_any (read_by r i) (IsWhole d (Some i)) march d (in_word_caught march d p r is detects word agg vic bits)) m
    (record memory { state = closed_words i memory.state }) (whole_planted d i memory.state is bits.word_within has.words)

pub each_in_word_wrong : (march : List MarchElement) (d : Description) → InWordWrong march d → EachInWordWrong march d
each_in_word_wrong march d wrong p r is detects words pending idle size way word agg vic bits =
    wrong p r is detects (record { state = words; pending = pending; idle = idle }) word agg vic (record { words = size; under_way = way }) bits
