-- A chip with an instance at the two bits of an escape answers each read right.
use Rattle.std.proofs.Common.{◌≡◌, ◌≢◌, ◌<◌, ◌^◌, ◌%◌, ℕ, zero, suc, Bool, true, false, not, ◌&&◌, ◌||◌, eqb, Option, Some, None, is_some, List, [], ◌∷◌, length, refl, ap, sym, subst, ◌∙◌, ⊎_elim}
use Rattle.std.specs.Prelude.{if◌then◌else◌, ◌==◌, slice_get}
use Rattle.std.proofs.lemmas.Bool.Decides.{eqb_tells}
use Rattle.fault_core.specs.declared.primitive.Act.{Act}
use Rattle.fault_core.specs.declared.primitive.Act.TheVariants.{Write, Read, Pause}
use Rattle.fault_core.specs.Primitive.{Primitive, IsPrimitive, has_aggressor, is_pause, is_retention}
use Rattle.march_core.specs.March.{MarchElement}
use Rattle.memory_desc.specs.Descriptions.{Description, IsMemory}
use Rattle.word_march.specs.declared.operations.WordOp.{WordOp}
use Rattle.word_march.specs.Commands.{word_steps}
use Rattle.word_device.specs.declared.device.Planted.{Planted}
use Rattle.word_device.specs.Chips.{bits_hold, with_bit_in, closed_words, paused_words, words_after, reply_to, words_paused}
use Rattle.word_device.specs.Ports.{Chip, shape_of, rested, idle_more}
use Rattle.word_device.specs.Runs.{run_word, IsRight}
use Rattle.word_device.proofs.Closed.{closed_twice, length-closed_words}
use Rattle.word_device.proofs.Core.{replies, operations}
use Rattle.word_device.proofs.Running.{Settles, instance_settles}
use Rattle.word_device.proofs.Marching.{begun, right_shown}
use Rattle.word_device.proofs.Joint.{joint_rights}
use Rattle.word_coupling.specs.declared.reading.Reading.TheVariants.{Before}
use Rattle.word_coupling.specs.declared.judging.WordEscape.{WordEscape}
use Rattle.word_coupling.specs.Words.{in_word, is_wrong, is_caught}
use Rattle.word_coupling.specs.Joint.{HasEscapeInWord, JointPassesInWord}

-- a right read
right_low : (bits : ℕ) (o : WordOp) (reply : ℕ) → is_wrong bits o reply ≡ false → o.write ≡ false → reply % 2 ^ bits ≡ o.word
right_low bits o reply right read =
    ⊎_elim
    (λ (h : (eqb (reply % 2 ^ bits) o.word ≡ true) × (reply % 2 ^ bits ≡ o.word)). h.1)
    (λ (h : (eqb (reply % 2 ^ bits) o.word ≡ false) × (reply % 2 ^ bits ≢ o.word)).
    let wrong : is_wrong bits o reply ≡ true = ap (λ (b : Bool). not b && not (reply % 2 ^ bits == o.word)) read ∙ ap not h.0 in cc)
    (eqb_tells (reply % 2 ^ bits) o.word)

abbrev Replied : ℕ → Option Planted → List (Option WordOp) → List ℕ → ℕ → WordOp → Type 0
Replied bits i steps ws j o = (r : ℕ) × (slice_get (replies i ws steps) j ≡ Some r) × (r % 2 ^ bits ≡ o.word)

neither : (s t : Bool) → (s || t) ≡ false → (s ≡ false) × (t ≡ false)
neither true t h = cc
neither false t h = (refl, h)

-- what is not caught has the replies that are expected
passed_replies : (bits : ℕ) (i : Planted) (steps : List (Option WordOp)) (ws : List ℕ) → is_caught Before bits i steps ws ≡ false
    → (j : ℕ) (o : WordOp) → slice_get (operations steps) j ≡ Some o → o.write ≡ false → Replied bits (Some i) steps ws j o
unfolding words_after
passed_replies bits i [] ws passed j o is_op read = cc
passed_replies bits i (None ∷ steps) ws passed j o is_op read = passed_replies bits i steps (words_paused (Some i) ws) passed j o is_op read
passed_replies bits i (Some x ∷ steps) ws passed zero o is_op read =
    let same : x ≡ o = cc in
    let parts = neither (is_wrong bits x (reply_to (Some i) ws x)) (is_caught Before bits i steps (words_after (Some i) ws x)) passed in
    let own : x.write ≡ false = ap (λ (y : WordOp). y.write) same ∙ read in
    (reply_to (Some i) ws x, refl, right_low bits x (reply_to (Some i) ws x) parts.0 own ∙ ap (λ (y : WordOp). y.word) same)
passed_replies bits i (Some x ∷ steps) ws passed (suc j) o is_op read =
    let parts = neither (is_wrong bits x (reply_to (Some i) ws x)) (is_caught Before bits i steps (words_after (Some i) ws x)) passed in
    passed_replies bits i steps (words_after (Some i) ws x) parts.1 j o is_op read

-- ---- a primitive of two cells over a pause

the_pause : (act : Option Act) → is_pause act ≡ true → act ≡ Some Pause
the_pause None e = cc
the_pause (Some Read) e = cc
the_pause (Some (Write b)) e = cc
the_pause (Some Pause) e = refl

no_retention : (p : Primitive) → IsPrimitive p → has_aggressor p ≡ true → is_retention p ≡ false
no_retention p is two = go (is_retention p) refl
  where
    go : (b : Bool) → is_retention p ≡ b → is_retention p ≡ false
    go false e = e
    go true e = let alone = is.paused (the_pause p.vic.act e) in let none : has_aggressor p ≡ false = ap is_some alone in cc

paused_closed : (i : Planted) (ws : List ℕ) → is_retention i.prim ≡ false → closed_words i ws ≡ ws → paused_words i ws ≡ ws
unfolding paused_words
paused_closed i ws never closed =
    ap (λ (b : Bool). closed_words i (if b && bits_hold i ws then with_bit_in ws i.vic i.prim.after else ws)) never ∙ closed

begun_closed : (d : Description) (i : Planted) (ws : List ℕ) (idle : ℕ) → is_retention i.prim ≡ false → closed_words i ws ≡ ws
    → rested (shape_of d) (Some i) ws idle ≡ ws
begun_closed d i ws idle never closed = go (idle_more (shape_of d) idle == d.pause)
  where
    go : (b : Bool) → (if b then words_paused (Some i) ws else ws) ≡ ws
    go true = paused_closed i ws never closed
    go false = refl

-- ---- the chip

not_caught : (b : Bool) → (b ≡ true → ⊥) → b ≡ false
not_caught true h = absurd (h refl)
not_caught false h = refl

escape_right : (march : List MarchElement) (d : Description) → IsMemory d → (p : Primitive) (word : ℕ) (e : WordEscape) (chip : Chip)
    → HasEscapeInWord march d p word e chip → (j : ℕ) → IsRight march d (run_word march d chip) j
escape_right march d m p word e chip has =
    let i : Planted = in_word p word e.agg e.vic in
    let start : List ℕ = closed_words i has.content in
    let inside : i.vic.word < length has.content = subst (λ (n : ℕ). word < n) (sym has.words) has.within in
    let size : length chip.words ≡ d.words = ap length has.closed ∙ length-closed_words i has.content ∙ has.words in
    let settles : Settles chip.planted d.words =
    subst (λ (q : Option Planted). Settles q d.words) (sym has.planted) (instance_settles i d.words has.primitive has.within) in
    let passed : is_caught Before d.bits i (word_steps march d) start ≡ false =
    not_caught (is_caught Before d.bits i (word_steps march d) start) (has.escape.passes word has.content has.within has.words has.holds) in
    let still : rested (shape_of d) (Some i) start chip.idle ≡ start =
    begun_closed d i start chip.idle (no_retention p has.primitive has.two_cell) (closed_twice i has.content has.primitive inside) in
    let begins : begun d chip ≡ start =
    ap (λ (q : Option Planted). rested (shape_of d) q chip.words chip.idle) has.planted
    ∙ ap (λ (ws : List ℕ). rested (shape_of d) (Some i) ws chip.idle) has.closed ∙ still in
    right_shown march d chip m settles size
    (λ j o is_op read.
    subst (λ (q : Option Planted). Replied d.bits q (word_steps march d) (begun d chip) j o) (sym has.planted)
    (subst (λ (ws : List ℕ). Replied d.bits (Some i) (word_steps march d) ws j o) (sym begins)
    (passed_replies d.bits i (word_steps march d) start passed j o is_op read)))

pub joint_passes_in_word : (march : List MarchElement) (d : Description) → IsMemory d → JointPassesInWord march d
joint_passes_in_word march d m p word e chip q returned last has joined =
    joint_rights march d chip q returned last (escape_right march d m p word e chip has) joined
