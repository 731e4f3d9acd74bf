-- Public. That what the laws of memories with a fault ask for is there: each content, each count of answers under way and of idle cycles, and each place.
use Rattle.std.specs.Prelude.{◌≡◌, ◌≢◌, ◌+◌, ◌<◌, ℕ, Bool, true, IsSome, None, Some, List, [], ◌∷◌, ◌++◌, length, slice_get}
use Rattle.march_core.specs.March.{MarchElement}
use Rattle.march_core.specs.Runs.{up}
use Rattle.march_core.specs.Visits.{Visit, MarchStep, visiting, visits}
use Rattle.memory_desc.specs.Descriptions.{Description}
use Rattle.word_device.specs.declared.device.BitPlace.{BitPlace}
use Rattle.word_device.specs.Memories.{Memory}
use Rattle.word_device.specs.Answers.{HasWords}
use Rattle.linked_faults.specs.declared.link.Link.{Link}
use Rattle.decoder_faults.specs.Decoding.{Decoder}
use Rattle.dynamic_core.specs.Primitive.{DynamicPrimitive}
use Rattle.word_faults.specs.Linked.{Bits, FitsBits, bit_beside}
use Rattle.word_faults.specs.Alike.{read_words}
use Rattle.word_faults.specs.Decoders.{ReadsSomeBit}
use Rattle.word_faults.specs.Dynamic.{DynPlaces, FitsDynPlaces, held_words, HasHeldWords}
use Rattle.word_faults.specs.Laws.{BeginsAfresh}

abbrev pub memory_of : {S : Type 0} → S → List ℕ → ℕ → Memory S
memory_of state pending idle = record { state = state; pending = pending; idle = idle }

abbrev pub three_bits : BitPlace → BitPlace → BitPlace → Bits
three_bits a b v = record { a = a; b = b; v = v }

abbrev pub dyn_places : DynamicPrimitive → BitPlace → BitPlace → DynPlaces
dyn_places p a v = record { agg = bit_beside p.agg a; vic = v }

-- a bit of the memory
pub record IsBit (d : Description) (at : BitPlace) : Type 0 where
  pub word : at.word < d.words
  pub bit : at.bit < d.bits

-- the last of these steps isn't a visit to the word that the first visits
abbrev pub EndsElsewhere : List MarchStep → Type 0
EndsElsewhere steps =
    (v w : Visit) (behind before : List MarchStep) → steps ≡ visiting v ∷ behind → steps ≡ before ++ visiting w ∷ [] → v.address ≢ w.address

pub record AreThere (d : Description) : Type 0 where
  pub words : (words pending : List ℕ) (idle : ℕ) → length words ≡ d.words → length pending + 1 ≡ d.latency → HasWords d (memory_of words pending idle)
  pub held : (words pending : List ℕ) (armed : Bool) (idle : ℕ) → length words ≡ d.words → length pending + 1 ≡ d.latency
      → HasHeldWords d (memory_of (held_words words armed) pending idle)
  pub bits : (link : Link) (a b v : BitPlace) → IsBit d a → IsBit d b → IsBit d v → a.word ≢ v.word → b.word ≢ v.word → a.word ≢ b.word
      → FitsBits link (three_bits a b v) d.words d.bits
  -- two that need no third
  pub two_bits : (link : Link) (a v : BitPlace) → (IsSome link.first.agg → IsSome link.second.agg → link.is_shared ≡ true) → IsBit d a → IsBit d v → a.word ≢ v.word
      → FitsBits link (three_bits a a v) d.words d.bits
  pub one_bit : (link : Link) (v : BitPlace) → link.first.agg ≡ None → link.second.agg ≡ None → IsBit d v → FitsBits link (three_bits v v v) d.words d.bits
  pub places : (p : DynamicPrimitive) (a v : BitPlace) → IsBit d a → IsBit d v → a.word ≢ v.word → FitsDynPlaces p (dyn_places p a v) d.words d.bits
  pub reads : (decoder : Decoder) (j : ℕ) → j < d.bits → (r : ReadsSomeBit d.bits decoder (λ k words. read_words d.bits (decoder k) words)) × (r.bit ≡ j)
  -- where the background 0 is the first, or the march ends elsewhere than it begins
  pub first : (p : DynamicPrimitive) (march : List MarchElement) → slice_get d.backgrounds 0 ≡ Some 0 → BeginsAfresh p march d
  pub elsewhere : (p : DynamicPrimitive) (march : List MarchElement) → EndsElsewhere (visits march (up march) d.words) → BeginsAfresh p march d
