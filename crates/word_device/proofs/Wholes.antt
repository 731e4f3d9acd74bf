-- Words with at most one planted instance are a lawful memory: with one of a detected primitive some reply differs, and without each is right.
use Rattle.std.proofs.Common.{◌≡◌, ◌<◌, ℕ, Option, Some, None, List, [], ◌∷◌, length, refl, ap, sym, subst, ◌∙◌}
use Rattle.std.specs.Prelude.{slice_get}
use Rattle.fault_core.specs.Primitive.{Primitive, IsPrimitive}
use Rattle.march_core.specs.March.{MarchElement, IsMarch}
use Rattle.array_sim.specs.Detection.{Detects, DetectsAt}
use Rattle.memory_desc.specs.Descriptions.{Description, IsMemory}
use Rattle.word_march.specs.declared.operations.WordOp.{WordOp}
use Rattle.word_march.specs.Commands.{word_steps}
use Rattle.word_device.specs.declared.device.Planted.{Planted}
use Rattle.word_device.specs.Chips.{FitsMemory, closed_words, words_paused, words_after, reply_to}
use Rattle.word_device.proofs.Closed.{closed_twice, length-closed_words}
use Rattle.word_device.proofs.Core.{replies as plain_replies, stepped, length_stepped, AllRepliesRight}
use Rattle.word_device.proofs.Catching.{ready_stepped, catches}
use Rattle.word_device.proofs.Passing.{passes}
use Rattle.word_device.proofs.Porting.{words_same, reply_same}
use Rattle.word_device.proofs.Running.{Settles, plain_settles, instance_settles}
use Rattle.word_device.specs.Memories.{words_with}
use Rattle.word_device.specs.Answers.{IsWhole, PlantedWrong}
use Rattle.word_device.proofs.Answering.{IsLawful, replies}
use Rattle.word_device.proofs.Attaching.{AlwaysDiffers, from_any, answers_wrong}

abbrev pub Sound : Description → Option Planted → Type 0
Sound d None = Unit {0}
Sound d (Some i) = IsPrimitive i.prim × (i.vic.word < d.words)

pub whole_stepped : (d : Description) (planted : Option Planted) → Sound d planted → (ws : List ℕ) (s : Option WordOp) → IsWhole d planted ws → IsWhole d planted (stepped planted ws s)
whole_stepped d None sound ws s h = record { size = length_stepped None ws s ∙ h.size; closed = refl }
whole_stepped d (Some i) sound ws s h =
    let ready = ready_stepped i d.words ws s sound.0 sound.1 (record { size = h.size; closed = h.closed }) in
    record { size = ready.size; closed = ready.closed }

pub settles_of : (d : Description) (planted : Option Planted) → Sound d planted → Settles planted d.words
settles_of d None sound = plain_settles d.words
settles_of d (Some i) sound = instance_settles i d.words sound.0 sound.1

pub lawful_words : (d : Description) (planted : Option Planted) → Sound d planted → IsLawful (words_with planted) (IsWhole d planted)
lawful_words d planted sound = record {
  same_after = λ s k x y. words_same planted s _ k x y (λ e. cc);
  same_reply = λ s k x y. reply_same planted s _ k x y (λ e. cc);
  good_after = λ s o good. whole_stepped d planted sound s (Some o) good;
  good_idled = λ s good. good;
  good_paused = λ s good. whole_stepped d planted sound s None good;
  idled_paused = λ s good. refl;
  paused_idled = λ s good. refl;
  settled = λ s good. settles_of d planted sound s good.size;
}

replies_same : (d : Description) (planted : Option Planted) (sound : Sound d planted) (ss : List (Option WordOp)) (ws : List ℕ)
    → replies (words_with planted) (IsWhole d planted) (lawful_words d planted sound) ws ss ≡ plain_replies planted ws ss
replies_same d planted sound [] ws = refl
replies_same d planted sound (None ∷ ss) ws = replies_same d planted sound ss (words_paused planted ws)
replies_same d planted sound (Some o ∷ ss) ws = ap (λ l. reply_to planted ws o ∷ l) (replies_same d planted sound ss (words_after planted ws o))

pub words_caught : (march : List MarchElement) (d : Description) → IsMemory d → (i : Planted) → IsPrimitive i.prim → FitsMemory i d.words d.bits → DetectsAt d.words march i.prim
    → AlwaysDiffers (words_with (Some i)) (IsWhole d (Some i)) march d
words_caught march d m i is fits detects =
    let sound : Sound d (Some i) = (is, fits.word) in
    record {
      lawful = lawful_words d (Some i) sound;
      differs = λ ws good.
          let found = catches march d i ws m is fits detects (record { size = good.size; closed = good.closed }) in
          let same = replies_same d (Some i) sound (word_steps march d) ws in
          record {
            number = found.number;
            op = found.op;
            reply = found.reply;
            is_op = found.is_op;
            is_read = found.is_read;
            is_reply = ap (λ l. slice_get l found.number) same ∙ found.is_reply;
            differs = found.differs;
          };
    }

pub words_right : (march : List MarchElement) (d : Description) → IsMarch march → (ws : List ℕ) → IsWhole d None ws
    → AllRepliesRight (word_steps march d) (replies (words_with None) (IsWhole d None) (lawful_words d None tt) ws (word_steps march d))
words_right march d is ws good = λ j o at read.
    ap (λ l. slice_get l j) (replies_same d None tt (word_steps march d) ws) ∙ passes march d ws is good.size j o at read

-- a memory in which an instance of a detected primitive was planted
pub whole_planted : (d : Description) (i : Planted) (words : List ℕ) → IsPrimitive i.prim → i.vic.word < d.words → length words ≡ d.words → IsWhole d (Some i) (closed_words i words)
whole_planted d i words is inside size = record {
  size = length-closed_words i words ∙ size;
  closed = closed_twice i words is (subst (λ (n : ℕ). i.vic.word < n) (sym size) inside);
}

pub planted_caught : (march : List MarchElement) (d : Description) → IsMemory d → (p : Primitive) → IsPrimitive p → Detects march p → (i : Planted) → i.prim ≡ p → FitsMemory i d.words d.bits
    → AlwaysDiffers (words_with (Some i)) (IsWhole d (Some i)) march d
planted_caught march d m p is detects i same fits =
    words_caught march d m i (subst IsPrimitive (sym same) is) fits (let all : Detects march i.prim = subst (Detects march) (sym same) detects in all d.words m.words_low)

pub planted_wrong : (march : List MarchElement) (d : Description) → IsMemory d → PlantedWrong march d
planted_wrong march d m p is detects memory i has same fits =
    let caught = planted_caught march d m p is detects i same fits in
    answers_wrong (words_with (Some i)) (IsWhole d (Some i)) (λ s. Unit {0}) march d (from_any (words_with (Some i)) (IsWhole d (Some i)) march d caught) m
    (record memory { state = closed_words i memory.state }) (whole_planted d i memory.state (subst IsPrimitive (sym same) is) fits.word has.words)
