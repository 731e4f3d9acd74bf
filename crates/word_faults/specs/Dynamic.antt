-- Trusted. A memory of words with an instance of a dynamic primitive: its two operations are one right behind the other.
use Rattle.std.specs.Prelude.{◌≡◌, ◌<◌, ◌==◌, ◌+◌, ℕ, Bool, false, if◌then◌else◌, Option, Some, None, List, length}
use Rattle.fault_core.specs.declared.cells.Places.{Places}
use Rattle.memory_desc.specs.Descriptions.{Description}
use Rattle.word_march.specs.declared.operations.WordOp.{WordOp}
use Rattle.word_device.specs.declared.device.BitPlace.{BitPlace}
use Rattle.word_device.specs.Chips.{with_bit_in, act_on, plain_words, plain_reply, answered}
use Rattle.word_device.specs.Memories.{Behaviour, Memory}
use Rattle.word_device.specs.Answers.{Claim}
use Rattle.dynamic_core.specs.Primitive.{DynamicPrimitive}
use Rattle.dynamic_core.specs.Dynamic.{Held, held_as, actor_of, matches_of, dyn_step}
use Rattle.dynamic_core.specs.Detecting.{FitsDyn}
use Rattle.word_faults.specs.Cells.{cells_in}

-- the bits of the aggressor, if there is one, and of the victim
pub record DynPlaces : Type 0 where
  pub agg : Option BitPlace
  pub vic : BitPlace

-- their words, as cells
abbrev pub word_of : Option BitPlace → Option ℕ
word_of None = None
word_of (Some a) = Some a.word

abbrev pub words_of : DynPlaces → Places
words_of at = record { agg = word_of at.agg; vic = at.vic.word }

-- the bit of each word that is such a cell: of the victim's the victim, and of all others the aggressor's
abbrev pub bit_or : Option BitPlace → ℕ → ℕ
bit_or None bit = bit
bit_or (Some a) bit = a.bit

abbrev pub bit_of : DynPlaces → ℕ → ℕ
bit_of at k = if at.vic.word == k then at.vic.bit else bit_or at.agg at.vic.bit

-- they are bits of two words of the memory
pub record FitsDynPlaces (p : DynamicPrimitive) (at : DynPlaces) (words bits : ℕ) : Type 0 where
  pub cells : FitsDyn p (words_of at) words
  pub each_bit : (k : ℕ) → bit_of at k < bits

-- the words, and whether the first act was done just now
pub record HeldWords : Type 0 where
  pub words : List ℕ
  pub armed : Bool

abbrev pub held_words : List ℕ → Bool → HeldWords
held_words words armed = record { words = words; armed = armed }

-- these bits as the cells of an array with the instance
abbrev pub seen : DynPlaces → HeldWords → Held
seen at h = held_as (cells_in (bit_of at) h.words) h.armed

-- whether an operation is the second act, right behind the first
abbrev pub is_second : DynamicPrimitive → DynPlaces → HeldWords → WordOp → Bool
is_second p at h o = matches_of (actor_of p (words_of at)) h.armed o.index (act_on o (bit_of at o.index))

-- the words after an operation: its plain part, and the effect of the primitive where it is the second act
abbrev pub dyn_words : DynamicPrimitive → DynPlaces → HeldWords → WordOp → List ℕ
dyn_words p at h o = if is_second p at h o then with_bit_in (plain_words h.words o) at.vic p.after else plain_words h.words o

-- the first act was done just now where it was on the cells; an idle cycle or a pause changes no word and leaves nothing armed
abbrev pub dynamic : DynamicPrimitive → DynPlaces → Behaviour HeldWords
dynamic p at = record {
  after = λ h o.
      let step : Held = dyn_step p (words_of at) (seen at h) o.index (act_on o (bit_of at o.index)) in
      held_words (dyn_words p at h o) step.armed;
  reply = λ h o. if is_second p at h o then answered p.answer at.vic (plain_reply h.words o) else plain_reply h.words o;
  idled = λ h. held_words h.words false;
  paused = λ h. held_words h.words false;
}

-- a memory of this description
pub record HasHeldWords (d : Description) (m : Memory HeldWords) : Type 0 where
  pub words : length m.state.words ≡ d.words
  pub under_way : length m.pending + 1 ≡ d.latency

-- said of each such memory with an instance of this primitive, at any place that fits
abbrev pub EachDynamic : Claim → Description → DynamicPrimitive → Type 0
EachDynamic Says d p =
    (m : Memory HeldWords) (at : DynPlaces) → HasHeldWords d m → FitsDynPlaces p at d.words d.bits → Says HeldWords (dynamic p at) m
