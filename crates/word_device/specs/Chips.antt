-- Trusted. A memory of words with at most one planted instance of a primitive, and what commands do to it.
use Rattle.std.specs.Prelude.{◌≢◌, ◌<◌, ◌==◌, ◌^◌, ℕ, Bool, true, false, not, ◌&&◌, ◌||◌, if◌then◌else◌, Option, Some, None, List, slice_index, slice_set, bit_xor}
use Rattle.std.specs.Int.{bit_at}
use Rattle.fault_core.specs.declared.primitive.Act.{Act}
use Rattle.fault_core.specs.declared.primitive.Act.TheVariants.{Write, Read}
use Rattle.fault_core.specs.declared.primitive.Sense.{Sense}
use Rattle.fault_core.specs.Primitive.{same_bit, is_retention}
use Rattle.fault_core.specs.Cells.{has_act, has_this_act}
use Rattle.word_march.specs.declared.operations.WordOp.{WordOp}
use Rattle.word_device.specs.declared.device.BitPlace.{BitPlace}
use Rattle.word_device.specs.declared.device.Planted.{Planted}

-- whether a bit of a word is 1
unfoldable pub has_bit : ℕ → ℕ → Bool
has_bit word i = bit_at word i == 1

-- the word with this bit at a position
unfoldable pub with_bit : ℕ → ℕ → Bool → ℕ
with_bit word i bit = if same_bit (has_bit word i) bit then word else bit_xor word (2 ^ i)

-- the bit at a place, and the words with another bit there
abbrev pub bit_in : List ℕ → BitPlace → Bool
bit_in words at = has_bit (slice_index words at.word) at.bit

abbrev pub with_bit_in : List ℕ → BitPlace → Bool → List ℕ
with_bit_in words at bit = slice_set words at.word (with_bit (slice_index words at.word) at.bit bit)

-- whether the aggressor's bit holds its state, where there is an aggressor
abbrev pub agg_bit_holds : Option Sense → Option BitPlace → List ℕ → Bool
agg_bit_holds None place words = true
agg_bit_holds (Some sense) None words = true
agg_bit_holds (Some sense) (Some at) words = same_bit (bit_in words at) sense.state

-- whether every state of the instance holds
abbrev pub bits_hold : Planted → List ℕ → Bool
bits_hold i words = same_bit (bit_in words i.vic) i.prim.vic.state && agg_bit_holds i.prim.agg i.agg words

-- closing: an instance without an act sets its victim's bit where its states hold
unfoldable pub closed_words : Planted → List ℕ → List ℕ
closed_words i words = if not (has_act i.prim) && bits_hold i words then with_bit_in words i.vic i.prim.after else words

-- what an operation does to a bit of its word
abbrev pub act_on : WordOp → ℕ → Act
act_on o bit = if o.write then Write (has_bit o.word bit) else Read

-- whether an operation is this act on the bit at a place
abbrev pub falls_on : Option Act → BitPlace → WordOp → Bool
falls_on act at o = (at.word == o.index) && has_this_act act (act_on o at.bit)

abbrev pub falls_on_agg : Option Sense → Option BitPlace → WordOp → Bool
falls_on_agg None place o = false
falls_on_agg (Some sense) None o = false
falls_on_agg (Some sense) (Some at) o = falls_on sense.act at o

-- whether the operation is the act of the instance, on words where its states hold
unfoldable pub matches : Planted → List ℕ → WordOp → Bool
matches i words o = (falls_on i.prim.vic.act i.vic o || falls_on_agg i.prim.agg i.agg o) && bits_hold i words

-- the plain part of an operation
abbrev pub plain_words : List ℕ → WordOp → List ℕ
plain_words words o = if o.write then slice_set words o.index o.word else words

abbrev pub plain_reply : List ℕ → WordOp → ℕ
plain_reply words o = if o.write then 0 else slice_index words o.index

-- the plain part, then the effect of the instance where the operation is its act
abbrev pub acted_words : Planted → List ℕ → WordOp → List ℕ
acted_words i words o =
    if matches i words o then with_bit_in (plain_words words o) i.vic i.prim.after else plain_words words o

-- a reply with the victim's bit that the primitive answers, where it answers one
abbrev pub answered : Option Bool → BitPlace → ℕ → ℕ
answered None at word = word
answered (Some bit) at word = with_bit word at.bit bit

-- a pause: the effect of the instance where the pause is its act, on words where its states hold, and closing
unfoldable pub paused_words : Planted → List ℕ → List ℕ
paused_words i words =
    closed_words i (if is_retention i.prim && bits_hold i words then with_bit_in words i.vic i.prim.after else words)

abbrev pub words_paused : Option Planted → List ℕ → List ℕ
words_paused None words = words
words_paused (Some i) words = paused_words i words

-- the instance of a chip, if it has one, closes the words
abbrev pub closed_by : Option Planted → List ℕ → List ℕ
closed_by None words = words
closed_by (Some i) words = closed_words i words

-- one operation on the words, as they are stored
unfoldable pub words_after : Option Planted → List ℕ → WordOp → List ℕ
words_after None words o = plain_words words o
words_after (Some i) words o = closed_words i (acted_words i words o)

-- and its reply
unfoldable pub reply_to : Option Planted → List ℕ → WordOp → ℕ
reply_to None words o = plain_reply words o
reply_to (Some i) words o = if matches i words o then answered i.prim.answer i.vic (plain_reply words o) else plain_reply words o

-- the place of the aggressor: there exactly for a primitive with an aggressor, and in another word than the victim's
abbrev pub FitsAggPlace : Option Sense → Option BitPlace → BitPlace → ℕ → ℕ → Type 0
FitsAggPlace None None vic words bits = Unit {0}
FitsAggPlace None (Some at) vic words bits = ⊥
FitsAggPlace (Some sense) None vic words bits = ⊥
FitsAggPlace (Some sense) (Some at) vic words bits = (at.word < words) × (at.bit < bits) × (at.word ≢ vic.word)

-- an instance in a memory of this shape
pub record FitsMemory (i : Planted) (words bits : ℕ) : Type 0 where
  pub word : i.vic.word < words
  pub bit : i.vic.bit < bits
  pub agg : FitsAggPlace i.prim.agg i.agg i.vic words bits
