-- What a chip answers to the cycles of a march is what the operations on its words reply.
use Rattle.std.proofs.Common.{◌≡◌, ◌≢◌, ◌+◌, ◌<◌, ◌≤◌, ℕ, zero, suc, Bool, true, false, eqb, Option, Some, None, List, [], ◌∷◌, ◌++◌, drop, length, map, replicate, refl, ap, sym, subst, ◌∙◌, ⊎_elim, inl, inr, arith}
use Rattle.std.specs.Prelude.{if◌then◌else◌, ◌==◌, slice_get}
use Rattle.std.proofs.lemmas.Bool.{lt-ltb, le-ltb, cases_lt}
use Rattle.std.proofs.lemmas.Bool.Decides.{eqb_tells}
use Rattle.fault_core.specs.Primitive.{IsPrimitive}
use Rattle.memory_desc.specs.Descriptions.{Description, IsMemory}
use Rattle.word_march.specs.declared.operations.WordOp.{WordOp}
use Rattle.word_march.specs.declared.operations.PortOp.{PortOp}
use Rattle.word_march.proofs.Spread.{cycles, place, behind_pause, first_place, next_place}
use Rattle.word_device.specs.declared.device.Planted.{Planted}
use Rattle.word_device.specs.declared.shape.Shape.{Shape}
use Rattle.word_device.specs.Chips.{words_paused, words_after, reply_to}
use Rattle.word_device.specs.Ports.{Chip, shape_of, shown, queued, idle_more, rested, own_answer, own_answers}
use Rattle.word_device.specs.Runs.{command_in}
use Rattle.word_device.proofs.Closed.{paused_twice}
use Rattle.word_device.proofs.Core.{replies, operations, length-paused, length_stepped}
use Rattle.word_device.proofs.Porting.{InMemory, command_of, operation_acts, operation_answers}

-- a pause that is taken again changes nothing
abbrev pub Settles : Option Planted → ℕ → Type 0
Settles i n = (ws : List ℕ) → length ws ≡ n → words_paused i (words_paused i ws) ≡ words_paused i ws

pub plain_settles : (n : ℕ) → Settles None n
plain_settles n ws size = refl

pub instance_settles : (i : Planted) (n : ℕ) → IsPrimitive i.prim → i.vic.word < n → Settles (Some i) n
instance_settles i n is inside ws size = paused_twice i ws is (subst (λ m. i.vic.word < m) (sym size) inside)

-- ---- idle cycles

module _ (shape : Shape) (i : Option Planted) where
  abbrev pub chip_of : List ℕ → List ℕ → ℕ → Chip
  chip_of ws pending idle = record { words = ws; planted = i; pending = pending; idle = idle }

  -- the chip behind some idle cycles, part by part
  abbrev idle_words : ℕ → List ℕ → ℕ → List ℕ
  idle_words zero ws a = ws
  idle_words (suc n) ws a = idle_words n (rested shape i ws a) (idle_more shape a)

  abbrev idle_pending : ℕ → List ℕ → List ℕ
  idle_pending zero pending = pending
  idle_pending (suc n) pending = idle_pending n (drop 1 (queued pending 0))

  abbrev idle_count : ℕ → ℕ → ℕ
  idle_count zero a = a
  idle_count (suc n) a = idle_count n (idle_more shape a)

  answers_behind : (n k : ℕ) (rest : List (Option PortOp)) (ws pending : List ℕ) (a : ℕ)
      → slice_get (own_answers shape (chip_of ws pending a) (map command_in (replicate n None ++ rest))) (n + k)
      ≡ slice_get (own_answers shape (chip_of (idle_words n ws a) (idle_pending n pending) (idle_count n a)) (map command_in rest)) k
  answers_behind zero k rest ws pending a =
      let same : 0 + k ≡ k = omega arith in
      ap (slice_get (own_answers shape (chip_of ws pending a) (map command_in rest))) same
  answers_behind (suc n) k rest ws pending a =
      let on : suc n + k ≡ suc (n + k) = omega arith in
      ap (slice_get (own_answers shape (chip_of ws pending a) (map command_in (replicate (suc n) None ++ rest)))) on
      ∙ answers_behind n k rest (rested shape i ws a) (drop 1 (queued pending 0)) (idle_more shape a)

  -- words that a pause leaves stay
  rested_settled : (ws : List ℕ) (a : ℕ) → words_paused i ws ≡ ws → rested shape i ws a ≡ ws
  rested_settled ws a settled = go (idle_more shape a == shape.pause)
    where
      go : (b : Bool) → (if b then words_paused i ws else ws) ≡ ws
      go true = settled
      go false = refl

  idle_settled : (n : ℕ) (ws : List ℕ) (a : ℕ) → words_paused i ws ≡ ws → idle_words n ws a ≡ ws
  idle_settled zero ws a settled = refl
  idle_settled (suc n) ws a settled =
      ap (λ xs. idle_words n xs (idle_more shape a)) (rested_settled ws a settled) ∙ idle_settled n ws (idle_more shape a) settled

  -- the count before the pause is reached
  still_counting : (a : ℕ) → idle_more shape a ≢ shape.pause → (idle_more shape a ≡ a + 1) × (a + 1 < shape.pause)
  still_counting a other = elim (cases_lt a shape.pause) [
    | inl l ↦ (
        let more : idle_more shape a ≡ a + 1 = ap (λ (b : Bool). if b then a + 1 else shape.pause) (lt-ltb a shape.pause l) in
        let apart : a + 1 ≢ shape.pause = λ e. other (more ∙ e) in
        (more, omega arith))
    | inr l ↦ absurd (other (ap (λ (b : Bool). if b then a + 1 else shape.pause) (le-ltb a shape.pause l)))
  ]

  -- a pause is taken, once or more
  idle_paused : (n : ℕ) (ws : List ℕ) (a : ℕ) → words_paused i (words_paused i ws) ≡ words_paused i ws → 1 ≤ n → shape.pause ≤ a + n
      → idle_words n ws a ≡ words_paused i ws
  idle_paused zero ws a twice some reached = absurd (omega arith)
  idle_paused (suc n) ws a twice some reached =
      ⊎_elim
      (λ (h : (eqb (idle_more shape a) shape.pause ≡ true) × (idle_more shape a ≡ shape.pause)).
      ap (λ (b : Bool). idle_words n (if b then words_paused i ws else ws) (idle_more shape a)) h.0
      ∙ idle_settled n (words_paused i ws) (idle_more shape a) twice)
      (λ (h : (eqb (idle_more shape a) shape.pause ≡ false) × (idle_more shape a ≢ shape.pause)).
      let count = still_counting a h.1 in
      let low : a + 1 < shape.pause = count.1 in
      ap (λ (b : Bool). idle_words n (if b then words_paused i ws else ws) (idle_more shape a)) h.0
      ∙ ap (idle_words n ws) count.0
      ∙ idle_paused n ws (a + 1) twice (omega arith) (omega arith))
      (eqb_tells (idle_more shape a) shape.pause)

-- ---- the run

-- the answer to operation j is its reply, as it is shown
pub answer_in_run : (d : Description) (i : Option Planted) → IsMemory d → Settles i d.words → (ss : List (Option WordOp))
    → InMemory d.words d.bits (operations ss)
    → (ws pending : List ℕ) (a : ℕ) → length ws ≡ d.words → (j : ℕ) (o : WordOp) (r : ℕ) → slice_get (operations ss) j ≡ Some o
    → slice_get (replies i ws ss) j ≡ Some r
    → slice_get (own_answers (shape_of d) (chip_of (shape_of d) i ws pending a) (map command_in (cycles d ss))) (place d ss j) ≡ Some (shown o.write d.polarity r)
answer_in_run d i m settles [] within ws pending a size j o r op reply = cc
answer_in_run d i m settles (None ∷ ss) within ws pending a size j o r op reply =
    let shape : Shape = shape_of d in
    let low = m.pause_low in
    let rest : List (Option PortOp) = cycles d ss in
    let paused : List ℕ = words_paused i ws in
    let after : List ℕ = idle_pending shape i d.pause pending in
    let count : ℕ = idle_count shape i d.pause a in
    ap (slice_get (own_answers shape (chip_of shape i ws pending a) (map command_in (cycles d (None ∷ ss))))) (behind_pause d ss j)
    ∙ answers_behind shape i d.pause (place d ss j) rest ws pending a
    ∙ ap (λ xs. slice_get (own_answers shape (chip_of shape i xs after count) (map command_in rest)) (place d ss j))
    (idle_paused shape i d.pause ws a (settles ws size) low (omega arith))
    ∙ answer_in_run d i m settles ss within paused after count (length-paused i ws ∙ size) j o r op reply
answer_in_run d i m settles (Some x ∷ ss) within ws pending a size zero o r op reply =
    let shape : Shape = shape_of d in
    let same : x ≡ o = cc in
    let is : reply_to i ws x ≡ r = cc in
    ap (slice_get (own_answers shape (chip_of shape i ws pending a) (map command_in (cycles d (Some x ∷ ss))))) (first_place d x ss)
    ∙ ap Some (operation_answers d x i ws m within.0 within.1 ∙ ap (λ (y : WordOp). shown y.write d.polarity (reply_to i ws x)) same ∙ ap (shown o.write d.polarity) is)
answer_in_run d i m settles (Some x ∷ ss) within ws pending a size (suc j) o r op reply =
    let shape : Shape = shape_of d in
    let chip : Chip = chip_of shape i ws pending a in
    let after : List ℕ = drop 1 (queued pending (own_answer shape chip (command_of d x))) in
    let next : List ℕ = words_after i ws x in
    ap (slice_get (own_answers shape chip (map command_in (cycles d (Some x ∷ ss))))) (next_place d x ss j)
    ∙ ap (λ xs. slice_get (own_answers shape (chip_of shape i xs after 0) (map command_in (cycles d ss))) (place d ss j)) (operation_acts d x i ws m within.0 within.1)
    ∙ answer_in_run d i m settles ss within.2 next after 0 (length_stepped i ws (Some x) ∙ size) j o r op reply
