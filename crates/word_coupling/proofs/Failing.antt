-- A chip with a detected instance in one word answers some read wrong.
use Rattle.std.proofs.Common.{◌≡◌, ◌≢◌, ◌^◌, ◌%◌, ℕ, suc, Bool, true, false, not, ◌&&◌, ◌||◌, Option, Some, None, List, [], ◌∷◌, refl, ap, sym, subst, ◌∙◌}
use Rattle.std.specs.Prelude.{◌==◌}
use Rattle.std.proofs.lemmas.Bool.{eq-eqb}
use Rattle.fault_core.specs.Primitive.{Primitive}
use Rattle.march_core.specs.March.{MarchElement}
use Rattle.memory_desc.specs.Descriptions.{Description, IsMemory}
use Rattle.word_march.specs.declared.operations.WordOp.{WordOp}
use Rattle.word_march.specs.Commands.{word_steps}
use Rattle.word_device.specs.declared.device.Planted.{Planted}
use Rattle.word_device.specs.Chips.{words_after, reply_to, words_paused}
use Rattle.word_device.specs.Ports.{Chip, shape_of, rested}
use Rattle.word_device.proofs.Core.{stepped, replies, SomeReplyDiffers}
use Rattle.word_device.proofs.Catching.{Ready}
use Rattle.word_device.proofs.Running.{Settles, instance_settles}
use Rattle.word_device.proofs.Marching.{begun, begun_ready, differs_shown}
use Rattle.word_device.proofs.Joint.{joint_ends}
use Rattle.word_coupling.specs.declared.reading.Reading.TheVariants.{Before}
use Rattle.word_coupling.specs.Words.{in_word, is_wrong, is_caught}
use Rattle.word_coupling.specs.Joint.{HasDetectedInWord, FailsInWord, JointFailsInWord}

-- a wrong read differs
pub wrong_differs : (bits : ℕ) (o : WordOp) (reply : ℕ) → is_wrong bits o reply ≡ true → (o.write ≡ false) × (reply % 2 ^ bits ≢ o.word)
wrong_differs bits o reply wrong = go o.write refl wrong
  where
    go : (write : Bool) → o.write ≡ write → (not write && not (reply % 2 ^ bits == o.word)) ≡ true → (o.write ≡ false) × (reply % 2 ^ bits ≢ o.word)
    go true is h = cc
    go false is h =
        (is, λ e. let same : (reply % 2 ^ bits == o.word) ≡ true = eq-eqb (reply % 2 ^ bits) o.word e in let never = ap not same in cc)

later : (bits : ℕ) (s : Option WordOp) (steps : List (Option WordOp)) (i : Option Planted) (ws : List ℕ)
    → SomeReplyDiffers bits steps (replies i (stepped i ws s) steps) → SomeReplyDiffers bits (s ∷ steps) (replies i ws (s ∷ steps))
later bits None steps i ws d =
    record { number = d.number; op = d.op; reply = d.reply; is_op = d.is_op; is_read = d.is_read; is_reply = d.is_reply; differs = d.differs }
later bits (Some o) steps i ws d =
    record { number = suc d.number; op = d.op; reply = d.reply; is_op = d.is_op; is_read = d.is_read; is_reply = d.is_reply; differs = d.differs }

-- what is caught has a reply that differs
caught_differs : (bits : ℕ) (i : Planted) (steps : List (Option WordOp)) (ws : List ℕ) → is_caught Before bits i steps ws ≡ true
    → SomeReplyDiffers bits steps (replies (Some i) ws steps)
unfolding words_after
caught_differs bits i [] ws caught = cc
caught_differs bits i (None ∷ steps) ws caught = later bits None steps (Some i) ws (caught_differs bits i steps (words_paused (Some i) ws) caught)
caught_differs bits i (Some o ∷ steps) ws caught =
    go (λ there. later bits (Some o) steps (Some i) ws (caught_differs bits i steps (words_after (Some i) ws o) there))
    (is_wrong bits o (reply_to (Some i) ws o)) refl caught
  where
    go : (is_caught Before bits i steps (words_after (Some i) ws o) ≡ true → SomeReplyDiffers bits (Some o ∷ steps) (replies (Some i) ws (Some o ∷ steps)))
        → (b : Bool) → is_wrong bits o (reply_to (Some i) ws o) ≡ b → (b || is_caught Before bits i steps (words_after (Some i) ws o)) ≡ true
        → SomeReplyDiffers bits (Some o ∷ steps) (replies (Some i) ws (Some o ∷ steps))
    go rest false is there = rest there
    go rest true is here =
        let wrong = wrong_differs bits o (reply_to (Some i) ws o) is in
        record { number = 0; op = o; reply = reply_to (Some i) ws o; is_op = refl; is_read = wrong.0; is_reply = refl; differs = wrong.1 }

-- ---- the chip

in_word_differs : (march : List MarchElement) (d : Description) (p : Primitive) (word agg vic : ℕ) (chip : Chip)
    → HasDetectedInWord march d p word agg vic chip
    → SomeReplyDiffers d.bits (word_steps march d) (replies chip.planted (begun d chip) (word_steps march d))
in_word_differs march d p word agg vic chip has =
    let i : Planted = in_word p word agg vic in
    let start : List ℕ = rested (shape_of d) (Some i) chip.words chip.idle in
    let ready : Ready i d.words start =
    begun_ready d i chip.words chip.idle has.primitive has.places.word_within (record { size = has.words; closed = has.closed }) in
    let caught : is_caught Before d.bits i (word_steps march d) start ≡ true =
    ap (is_caught Before d.bits i (word_steps march d)) (sym ready.closed) ∙ has.detected word agg vic start has.places ready.size in
    subst
    (λ (q : Option Planted). SomeReplyDiffers d.bits (word_steps march d) (replies q (rested (shape_of d) q chip.words chip.idle) (word_steps march d)))
    (sym has.planted) (caught_differs d.bits i (word_steps march d) start caught)

pub fails_in_word : (march : List MarchElement) (d : Description) → IsMemory d → FailsInWord march d
fails_in_word march d m p word agg vic chip has =
    let settles : Settles chip.planted d.words =
    subst (λ (q : Option Planted). Settles q d.words) (sym has.planted)
    (instance_settles (in_word p word agg vic) d.words has.primitive has.places.word_within) in
    differs_shown march d chip m settles has.words (in_word_differs march d p word agg vic chip has)

pub joint_fails_in_word : (march : List MarchElement) (d : Description) → IsMemory d → JointFailsInWord march d
joint_fails_in_word march d m p word agg vic chip q returned last has joined =
    let ends = joint_ends march d chip q returned last joined in
    record { done = ends.done; fail = ends.fail.1 (fails_in_word march d m p word agg vic chip has) }
