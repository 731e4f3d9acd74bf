-- Trusted. An instance whose aggressor and victim are two bits of one word, and when the test of a memory catches it.
use Rattle.std.specs.Prelude.{◌≡◌, ◌≢◌, ◌<◌, ◌==◌, ◌^◌, ◌%◌, ℕ, Bool, false, not, ◌&&◌, ◌||◌, if◌then◌else◌, IsTrue, Option, Some, None, is_some, unwrap_or, List, [], ◌∷◌, length}
use Rattle.fault_core.specs.Primitive.{Primitive}
use Rattle.march_core.specs.March.{MarchElement}
use Rattle.memory_desc.specs.Descriptions.{Description}
use Rattle.word_march.specs.declared.operations.WordOp.{WordOp}
use Rattle.word_march.specs.Commands.{word_steps}
use Rattle.word_device.specs.declared.device.BitPlace.{BitPlace}
use Rattle.word_device.specs.declared.device.Planted.{Planted}
use Rattle.word_device.specs.Chips.{bit_in, with_bit_in, closed_words, matches, plain_words, paused_words, reply_to}
use Rattle.word_coupling.specs.declared.reading.Reading.{Reading}
use Rattle.word_coupling.specs.declared.reading.Reading.TheVariants.{Before, Behind}

-- the instance at these bits of a word
abbrev pub in_word : Primitive → ℕ → ℕ → ℕ → Planted
in_word p word agg vic = record { prim = p; agg = Some (record { word = word; bit = agg }); vic = record { word = word; bit = vic } }

-- two bits of a word of the memory
pub record AreBits (d : Description) (word agg vic : ℕ) : Type 0 where
  pub word_within : word < d.words
  pub agg_within : agg < d.bits
  pub vic_within : vic < d.bits
  pub apart : agg ≢ vic

-- ---- two readings of a write, which writes both bits at once

-- where the act of an instance falls: on the victim, if that has an act, and else on the aggressor
abbrev pub act_place : Planted → BitPlace
act_place i = if is_some i.prim.vic.act then i.vic else unwrap_or i.agg i.vic

-- the words in which an operation finds the states: those before it; or those that its plain part leaves, where only the bit that the act
-- falls on is as before
abbrev pub found_in : Reading → Planted → List ℕ → WordOp → List ℕ
found_in Before i words o = words
found_in Behind i words o = with_bit_in (plain_words words o) (act_place i) (bit_in words (act_place i))

-- the words behind an operation: its plain part, then the effect where the operation is the act and the states are so found, and closing
abbrev pub words_by : Reading → Planted → List ℕ → WordOp → List ℕ
words_by reading i words o =
    closed_words i
    (if matches i (found_in reading i words o) o then with_bit_in (plain_words words o) i.vic i.prim.after else plain_words words o)

-- ---- what the test catches

-- whether an operation is a read, and is answered another word than it expects
abbrev pub is_wrong : ℕ → WordOp → ℕ → Bool
is_wrong bits o reply = not o.write && not (reply % 2 ^ bits == o.word)

-- whether some read of these operations and pauses is answered so, from these words on
abbrev pub is_caught : Reading → ℕ → Planted → List (Option WordOp) → List ℕ → Bool
is_caught reading bits i [] words = false
is_caught reading bits i (None ∷ steps) words = is_caught reading bits i steps (paused_words i words)
is_caught reading bits i (Some o ∷ steps) words =
    is_wrong bits o (reply_to (Some i) words o) || is_caught reading bits i steps (words_by reading i words o)

-- the test of a memory, from this content, which is closed first, catches the instance
abbrev pub IsCaughtInWord : Reading → List MarchElement → Description → Planted → List ℕ → Type 0
IsCaughtInWord reading march d i content = IsTrue (is_caught reading d.bits i (word_steps march d) (closed_words i content))

-- it catches the primitive at every two bits of every word, from every content
abbrev pub DetectsBy : Reading → List MarchElement → Description → Primitive → Type 0
DetectsBy reading march d p =
    (word agg vic : ℕ) (content : List ℕ) → AreBits d word agg vic → length content ≡ d.words
    → IsCaughtInWord reading march d (in_word p word agg vic) content

-- in each reading
abbrev pub DetectsInWord : List MarchElement → Description → Primitive → Type 0
DetectsInWord march d p = (reading : Reading) → DetectsBy reading march d p
