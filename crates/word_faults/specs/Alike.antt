-- Public. That memories of words with a fault do, at each operation, what planted instances, cells and plain words do.
use Rattle.std.specs.Prelude.{◌≡◌, ◌<◌, ◌-◌, ◌^◌, ℕ, Bool, true, false, if◌then◌else◌, Option, Some, None, List, slice_index, bit_and, bit_or}
use Rattle.fault_core.specs.declared.primitive.Act.TheVariants.{Read}
use Rattle.fault_core.specs.Primitive.{is_retention}
use Rattle.word_march.specs.declared.operations.WordOp.{WordOp}
use Rattle.word_device.specs.declared.device.Planted.{Planted}
use Rattle.word_device.specs.Chips.{has_bit, with_bit, with_bit_in, act_on, matches, plain_words, plain_reply}
use Rattle.word_device.specs.Memories.{Behaviour, words_with}
use Rattle.linked_faults.specs.declared.link.Link.{Link}
use Rattle.linked_faults.specs.Linking.{IsLinked}
use Rattle.decoder_faults.specs.declared.fault.WiredRead.{WiredRead}
use Rattle.decoder_faults.specs.declared.fault.WiredRead.TheVariants.{And, Or, Own}
use Rattle.decoder_faults.specs.Decoding.{Decoder, Reach, no_cell, one_cell, two_cells, read_through, act_through}
use Rattle.dynamic_core.specs.Primitive.{DynamicPrimitive, IsDynamic}
use Rattle.dynamic_core.specs.Dynamic.{dyn_step, dyn_answer, after_pause}
use Rattle.word_faults.specs.Cells.{column}
use Rattle.word_faults.specs.Linked.{Bits, first_of, second_of, linked}
use Rattle.word_faults.specs.Decoders.{decoded}
use Rattle.word_faults.specs.Dynamic.{DynPlaces, FitsDynPlaces, words_of, bit_of, HeldWords, seen, dynamic}

-- an operation leaves the same words, and is replied to with the same, as in a memory with this instance, or with none
abbrev pub DoesAs : Option Planted → Behaviour (List ℕ) → List ℕ → WordOp → Type 0
DoesAs planted b words o = (b.after words o ≡ (words_with planted).after words o) × (b.reply words o ≡ (words_with planted).reply words o)

abbrev pub PausesAs : Option Planted → Behaviour (List ℕ) → List ℕ → Type 0
PausesAs planted b words = b.paused words ≡ (words_with planted).paused words

-- linked primitives do as an instance of the first where the operation is its act, and else as one of the second; in a pause as the one, where the
-- other isn't a retention primitive
pub record AreAsOne (link : Link) (at : Bits) : Type 0 where
  pub first : (words : List ℕ) (o : WordOp) → matches (first_of link at) words o ≡ true → DoesAs (Some (first_of link at)) (linked link at) words o
  pub second : (words : List ℕ) (o : WordOp) → matches (first_of link at) words o ≡ false → DoesAs (Some (second_of link at)) (linked link at) words o
  pub first_pause : is_retention link.second ≡ false → (words : List ℕ) → PausesAs (Some (first_of link at)) (linked link at) words
  pub second_pause : is_retention link.first ≡ false → (words : List ℕ) → PausesAs (Some (second_of link at)) (linked link at) words

abbrev pub LinkedAsOne : Type 0
LinkedAsOne = (link : Link) (at : Bits) → IsLinked link → AreAsOne link at

-- what a read answers of two words, of which the first is the address's own
abbrev pub wired_words : WiredRead → ℕ → ℕ → ℕ
wired_words And own other = bit_and own other
wired_words Or own other = bit_or own other
wired_words Own own other = own

-- a read that answers alike in each bit: the word that it reaches; of two, what both together answer; and where it reaches none, this bit in each place
abbrev pub read_words : ℕ → Reach → List ℕ → ℕ
read_words bits (no_cell answer) words = if answer then 2 ^ bits - 1 else 0
read_words bits (one_cell c) words = slice_index words c
read_words bits (two_cells wired c e) words = wired_words wired (slice_index words c) (slice_index words e)

-- a wrong decoder does at each bit of the words what it does to cells
pub record IsByBits (decoder : Decoder) : Type 0 where
  pub after : (read : ℕ → List ℕ → ℕ) (words : List ℕ) (o : WordOp) (j : ℕ)
      → column j ((decoded decoder read).after words o) ≡ act_through (decoder o.index) (column j words) (act_on o j)
  pub reads : (bits k : ℕ) (words : List ℕ) (j : ℕ) → j < bits
      → has_bit (read_words bits (decoder k) words) j ≡ read_through (decoder k) (column j words)

abbrev pub DecodedByBits : Type 0
DecodedByBits = (decoder : Decoder) → IsByBits decoder

-- where each address reaches its own cell, nothing is wrong
abbrev pub plain_read : ℕ → List ℕ → ℕ
plain_read k words = slice_index words k

abbrev pub DecodedPlainly : Type 0
DecodedPlainly =
    (words : List ℕ) (o : WordOp) → DoesAs None (decoded one_cell plain_read) words o × PausesAs None (decoded one_cell plain_read) words

-- a dynamic primitive changes the victim's bit at most: of the words, and of the reply
pub record ChangesVictim (p : DynamicPrimitive) (at : DynPlaces) (h : HeldWords) (o : WordOp) : Type 0 where
  pub left : Bool
  pub words : (let next : HeldWords = (dynamic p at).after h o in next.words) ≡ with_bit_in (plain_words h.words o) at.vic left
  pub read : Bool
  pub reply : (dynamic p at).reply h o ≡ with_bit (plain_reply h.words o) at.vic.bit read

abbrev pub DynamicInPlace : Type 0
DynamicInPlace = (p : DynamicPrimitive) (at : DynPlaces) (h : HeldWords) (o : WordOp) → ChangesVictim p at h o

-- and the bits of its two words do what its cells do
abbrev pub DynamicByCells : Type 0
DynamicByCells =
    (p : DynamicPrimitive) (at : DynPlaces) (h : HeldWords) (o : WordOp)
    → seen at ((dynamic p at).after h o) ≡ dyn_step p (words_of at) (seen at h) o.index (act_on o (bit_of at o.index))

-- a read of them answers what its cell does, and an idle cycle is a pause to them
abbrev pub DynamicAnswers : Type 0
DynamicAnswers =
    (p : DynamicPrimitive) (at : DynPlaces) (words bits : ℕ) (h : HeldWords) (o : WordOp) → IsDynamic p → FitsDynPlaces p at words bits
    → o.write ≡ false → dyn_answer p (words_of at) (seen at h) o.index Read ≡ Some (has_bit ((dynamic p at).reply h o) (bit_of at o.index))

pub record RestsAsCells (p : DynamicPrimitive) (at : DynPlaces) (h : HeldWords) : Type 0 where
  pub idled : seen at ((dynamic p at).idled h) ≡ after_pause (seen at h)
  pub paused : seen at ((dynamic p at).paused h) ≡ after_pause (seen at h)

abbrev pub DynamicRests : Type 0
DynamicRests = (p : DynamicPrimitive) (at : DynPlaces) (h : HeldWords) → RestsAsCells p at h
