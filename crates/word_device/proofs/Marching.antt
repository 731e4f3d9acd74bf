-- A march on a chip: a planted instance of a detected primitive answers some read wrong, and with nothing planted each is right.
use Rattle.std.proofs.Common.{◌≡◌, ◌<◌, ◌^◌, ◌%◌, ℕ, zero, suc, Bool, true, false, Option, Some, None, List, [], ◌∷◌, length, map, refl, ap, sym, subst, ◌∙◌, arith}
use Rattle.std.specs.Prelude.{if◌then◌else◌, ◌==◌, slice_get, slice_index, bit_xor}
use Rattle.std.proofs.Math.Nat.{mod-eq_of_lt}
use Rattle.std.proofs.lemmas.Nat.{xor_mod}
use Rattle.std.proofs.lemmas.Option.{get_or_from_slice_get}
use Rattle.fault_core.specs.Primitive.{IsPrimitive}
use Rattle.march_core.specs.March.{MarchElement, IsMarch}
use Rattle.memory_desc.specs.Descriptions.{Description, IsMemory}
use Rattle.word_march.specs.declared.operations.WordOp.{WordOp}
use Rattle.word_march.specs.declared.operations.PortOp.{PortOp}
use Rattle.word_march.specs.Commands.{word_steps, word_ops, port_op, command_at}
use Rattle.word_march.specs.PortRule.{cycle_of}
use Rattle.word_device.specs.declared.device.Planted.{Planted}
use Rattle.word_device.specs.declared.shape.Shape.{Shape}
use Rattle.word_device.specs.Chips.{words_paused}
use Rattle.word_device.specs.Ports.{Chip, shape_of, shown, idle_more, rested, planted_chip}
use Rattle.word_device.specs.Runs.{run_slots, answer_to, run_answers, IsRight, SomeWrong, HasDetected, IsPlain, FailsPlanted, FailsFresh, PassesPlain}
use Rattle.word_device.proofs.Closed.{closed_twice, length-closed_words}
use Rattle.word_device.proofs.Core.{replies, SomeReplyDiffers, length-paused}
use Rattle.word_device.proofs.Catching.{Ready, ready_stepped, catches}
use Rattle.word_device.proofs.Passing.{passes}
use Rattle.word_device.proofs.Porting.{march_in_memory, twice, answers_of_slots}
use Rattle.word_device.proofs.Running.{Settles, plain_settles, instance_settles, answer_in_run}

-- the command of an operation, and the operation of a command
operation_at : (d : Description) (os : List WordOp) (j : ℕ) (c : PortOp) → slice_get (map (port_op d) os) j ≡ Some c
    → (o : WordOp) × (slice_get os j ≡ Some o) × (port_op d o ≡ c)
operation_at d [] j c e = cc
operation_at d (x ∷ os) zero c e = (x, refl, cc)
operation_at d (x ∷ os) (suc j) c e = operation_at d os j c e

command_of_operation : (d : Description) (os : List WordOp) (j : ℕ) (o : WordOp) → slice_get os j ≡ Some o
    → slice_get (map (port_op d) os) j ≡ Some (port_op d o)
command_of_operation d [] j o e = cc
command_of_operation d (x ∷ os) zero o e = let same : x ≡ o = cc in ap (λ y. Some (port_op d y)) same
command_of_operation d (x ∷ os) (suc j) o e = command_of_operation d os j o e

-- the words behind the idle cycle at the start
abbrev pub begun : Description → Chip → List ℕ
begun d chip = rested (shape_of d) chip.planted chip.words chip.idle

length-begun : (d : Description) (chip : Chip) → length (begun d chip) ≡ length chip.words
length-begun d chip = go (idle_more (shape_of d) chip.idle == d.pause)
  where
    go : (b : Bool) → length (if b then words_paused chip.planted chip.words else chip.words) ≡ length chip.words
    go true = length-paused chip.planted chip.words
    go false = refl

pub begun_ready : (d : Description) (i : Planted) (ws : List ℕ) (idle : ℕ) → IsPrimitive i.prim → i.vic.word < d.words → Ready i d.words ws
    → Ready i d.words (rested (shape_of d) (Some i) ws idle)
begun_ready d i ws idle is inside ready = go (idle_more (shape_of d) idle == d.pause)
  where
    go : (b : Bool) → Ready i d.words (if b then words_paused (Some i) ws else ws)
    go true = ready_stepped i d.words ws None is inside ready
    go false = ready

-- the answer to a read shows the reply to its operation
reply_shown : (march : List MarchElement) (d : Description) (chip : Chip) → IsMemory d → Settles chip.planted d.words → length chip.words ≡ d.words
    → (j : ℕ) (o : WordOp) (r : ℕ) → slice_get (word_ops march d) j ≡ Some o → o.write ≡ false
    → slice_get (replies chip.planted (begun d chip) (word_steps march d)) j ≡ Some r
    → answer_to march d (run_answers march d chip) j ≡ bit_xor r d.polarity
reply_shown march d chip m settles size j o r op read reply =
    let shape : Shape = shape_of d in
    let next : ℕ = command_at march d j in
    let on : cycle_of march d j ≡ suc next = omega arith in
    let found =
    answer_in_run d chip.planted m settles (word_steps march d) (march_in_memory march d m) (begun d chip) _ _
    (length-begun d chip ∙ size) j o r op reply in
    ap (slice_index (run_answers march d chip)) on ∙ get_or_from_slice_get _ next _ 0 found
    ∙ ap (λ (w : Bool). shown w d.polarity r) read

-- the low bits of a word that is shown
same_shown : (a b p : ℕ) → bit_xor a p ≡ bit_xor b p → a ≡ b
same_shown a b p e = sym (twice a p) ∙ ap (λ n. bit_xor n p) e ∙ twice b p

low_shown : (bits polarity r word : ℕ) → polarity < 2 ^ bits → bit_xor r polarity % 2 ^ bits ≡ bit_xor word polarity → r % 2 ^ bits ≡ word
low_shown bits polarity r word fits e =
    let low : polarity % 2 ^ bits ≡ polarity = mod-eq_of_lt fits in
    same_shown (r % 2 ^ bits) word polarity (ap (bit_xor (r % 2 ^ bits)) (sym low) ∙ sym (xor_mod r polarity bits) ∙ e)

-- ---- a planted instance

detected_settles : (march : List MarchElement) (d : Description) (i : Planted) (chip : Chip) → HasDetected march d i chip → Settles chip.planted d.words
detected_settles march d i chip has =
    subst (λ (p : Option Planted). Settles p d.words) (sym has.planted) (instance_settles i d.words has.primitive has.places.word)

detected_differs : (march : List MarchElement) (d : Description) (i : Planted) (chip : Chip) → IsMemory d → HasDetected march d i chip
    → SomeReplyDiffers d.bits (word_steps march d) (replies chip.planted (begun d chip) (word_steps march d))
detected_differs march d i chip m has =
    let ready : Ready i d.words chip.words = record { size = has.words; closed = has.closed } in
    let start : List ℕ = rested (shape_of d) (Some i) chip.words chip.idle in
    subst
    (λ (p : Option Planted). SomeReplyDiffers d.bits (word_steps march d) (replies p (rested (shape_of d) p chip.words chip.idle) (word_steps march d)))
    (sym has.planted)
    (catches march d i start m has.primitive has.places has.detected
    (begun_ready d i chip.words chip.idle has.primitive has.places.word ready))

-- where some reply differs, some word that is shown is wrong
pub differs_shown : (march : List MarchElement) (d : Description) (chip : Chip) → IsMemory d → Settles chip.planted d.words → length chip.words ≡ d.words
    → SomeReplyDiffers d.bits (word_steps march d) (replies chip.planted (begun d chip) (word_steps march d))
    → SomeWrong march d (λ j. answer_to march d (run_answers march d chip) j % 2 ^ d.bits)
differs_shown march d chip m settles size found =
    let shows : answer_to march d (run_answers march d chip) found.number ≡ bit_xor found.reply d.polarity =
    reply_shown march d chip m settles size found.number found.op found.reply found.is_op found.is_read found.is_reply in (
      found.number,
      record {
        command = port_op d found.op;
        is_command = command_of_operation d (word_ops march d) found.number found.op found.is_op;
        is_read = found.is_read;
        differs = λ same. found.differs (low_shown d.bits d.polarity found.reply found.op.word m.polarity (ap (λ (n : ℕ). n % 2 ^ d.bits) (sym shows) ∙ same));
      },
    )

-- where the low bits of each reply of a read are its expected word, so is each word that is shown
pub right_shown : (march : List MarchElement) (d : Description) (chip : Chip) → IsMemory d → Settles chip.planted d.words → length chip.words ≡ d.words
    → ((j : ℕ) (o : WordOp) → slice_get (word_ops march d) j ≡ Some o → o.write ≡ false
    → (r : ℕ) × (slice_get (replies chip.planted (begun d chip) (word_steps march d)) j ≡ Some r) × (r % 2 ^ d.bits ≡ o.word))
    → (j : ℕ) → IsRight march d (λ k. answer_to march d (run_answers march d chip) k % 2 ^ d.bits) j
right_shown march d chip m settles size replied j command is_command is_read =
    let from = operation_at d (word_ops march d) j command is_command in
    let read : from.0.write ≡ false = ap (λ (c : PortOp). c.write) from.2 ∙ is_read in
    let found = replied j from.0 from.1 read in
    let low : d.polarity % 2 ^ d.bits ≡ d.polarity = mod-eq_of_lt m.polarity in
    ap (λ (n : ℕ). n % 2 ^ d.bits) (reply_shown march d chip m settles size j from.0 found.0 from.1 read found.1)
    ∙ xor_mod found.0 d.polarity d.bits
    ∙ ap (λ (n : ℕ). bit_xor n (d.polarity % 2 ^ d.bits)) found.2
    ∙ ap (bit_xor from.0.word) low
    ∙ ap (λ (c : PortOp). c.word) from.2

pub run_fails : (march : List MarchElement) (d : Description) (i : Planted) (chip : Chip) → IsMemory d → HasDetected march d i chip
    → SomeWrong march d (λ j. answer_to march d (run_answers march d chip) j % 2 ^ d.bits)
run_fails march d i chip m has =
    differs_shown march d chip m (detected_settles march d i chip has) has.words (detected_differs march d i chip m has)

-- ---- nothing planted

pub run_passes : (march : List MarchElement) (d : Description) (chip : Chip) → IsMarch march → IsMemory d → IsPlain d chip
    → (j : ℕ) → IsRight march d (answer_to march d (run_answers march d chip)) j
run_passes march d chip is m plain j command is_command is_read =
    let from = operation_at d (word_ops march d) j command is_command in
    let read : from.0.write ≡ false = ap (λ (c : PortOp). c.write) from.2 ∙ is_read in
    let settles : Settles chip.planted d.words = subst (λ (p : Option Planted). Settles p d.words) (sym plain.planted) (plain_settles d.words) in
    let right : slice_get (replies chip.planted (begun d chip) (word_steps march d)) j ≡ Some from.0.word =
    ap (λ (p : Option Planted). slice_get (replies p (begun d chip) (word_steps march d)) j) plain.planted
    ∙ passes march d (begun d chip) is (length-begun d chip ∙ plain.words) j from.0 from.1 read in
    reply_shown march d chip m settles plain.words j from.0 from.0.word from.1 read right ∙ ap (λ (c : PortOp). c.word) from.2

-- ---- whatever the commands of the cycles are

pub fails_planted : (march : List MarchElement) (d : Description) → IsMemory d → FailsPlanted march d
fails_planted march d m chip i cmds has are =
    subst (λ (l : List ℕ). SomeWrong march d (λ j. answer_to march d l j % 2 ^ d.bits)) (sym (answers_of_slots (shape_of d) (run_slots march d) cmds are chip))
    (run_fails march d i chip m has)

pub fails_fresh : (march : List MarchElement) (d : Description) → IsMemory d → FailsFresh march d
fails_fresh march d m chip i cmds size is fits detects are =
    let inside : i.vic.word < length chip.words = subst (λ (n : ℕ). i.vic.word < n) (sym size) fits.word in
    fails_planted march d m (planted_chip i chip) i cmds
    (record {
      words = length-closed_words i chip.words ∙ size;
      planted = refl;
      primitive = is;
      places = fits;
      closed = closed_twice i chip.words is inside;
      detected = detects;
    })
    are

pub passes_plain : (march : List MarchElement) (d : Description) → IsMarch march → IsMemory d → PassesPlain march d
passes_plain march d is m chip cmds plain are j command is_command is_read =
    ap (λ (l : List ℕ). answer_to march d l j) (answers_of_slots (shape_of d) (run_slots march d) cmds are chip)
    ∙ run_passes march d chip is m plain j command is_command is_read
