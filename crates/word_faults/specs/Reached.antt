-- Public. What is said of each memory with a fault is said of all of them: each content, each count of answers under way and of idle cycles, and each
-- place. No further premise stands between.
use Rattle.std.specs.Prelude.{◌≡◌, ◌+◌, ◌⊎◌, ℕ, Bool, false, Some, List, length, slice_get}
use Rattle.fault_core.specs.Primitive.{Primitive, IsPrimitive, is_retention}
use Rattle.march_core.specs.March.{MarchElement}
use Rattle.array_sim.specs.Detection as array
use Rattle.memory_desc.specs.Descriptions.{Description}
use Rattle.word_device.specs.declared.device.Planted.{Planted}
use Rattle.word_device.specs.Chips.{FitsMemory, closed_words}
use Rattle.word_device.specs.Memories.{words_with}
use Rattle.word_device.specs.Answers.{AnswersWrong}
use Rattle.linked_faults.specs.declared.link.Link.{Link}
use Rattle.linked_faults.specs.Linking.{IsLinked}
use Rattle.linked_faults.specs.Detection.{Detects}
use Rattle.decoder_faults.specs.declared.fault.DecoderFault.{DecoderFault}
use Rattle.decoder_faults.specs.Detection.{DetectsDecoder}
use Rattle.decoder_faults.specs.Decoding.{AddressPair, FitsPair, Decoder, HasFault}
use Rattle.dynamic_core.specs.Primitive.{DynamicPrimitive, IsDynamic}
use Rattle.dynamic_core.specs.Detecting.{DetectsDyn}
use Rattle.word_faults.specs.Linked.{Bits, FitsBits, linked}
use Rattle.word_faults.specs.Alike.{read_words}
use Rattle.word_faults.specs.Decoders.{decoded}
use Rattle.word_faults.specs.Dynamic.{DynPlaces, FitsDynPlaces, HeldWords, held_words, dynamic}
use Rattle.word_faults.specs.There.{memory_of}

-- answers under way, as many as the latency asks for, and words
pub record Begins (d : Description) (words pending : List ℕ) : Type 0 where
  pub size : length words ≡ d.words
  pub under_way : length pending + 1 ≡ d.latency

pub record EachAnswersWrong (march : List MarchElement) (d : Description) : Type 0 where
  pub planted : (p : Primitive) → IsPrimitive p → array.Detects march p → (words pending : List ℕ) (idle : ℕ) → Begins d words pending
      → (i : Planted) → i.prim ≡ p → FitsMemory i d.words d.bits
      → AnswersWrong march d (List ℕ) (words_with (Some i)) (memory_of (closed_words i words) pending idle)
  pub linked : (link : Link) → IsLinked link → (is_retention link.first ≡ false) ⊎ (is_retention link.second ≡ false) → Detects march link
      → (words pending : List ℕ) (idle : ℕ) → Begins d words pending → (at : Bits) → FitsBits link at d.words d.bits
      → AnswersWrong march d (List ℕ) (linked link at) (memory_of words pending idle)
  pub decoder : (fault : DecoderFault) → DetectsDecoder march fault → (words pending : List ℕ) (idle : ℕ) → Begins d words pending
      → (at : AddressPair) (decoder : Decoder) → FitsPair at d.words → HasFault decoder fault at
      → AnswersWrong march d (List ℕ) (decoded decoder (λ k words. read_words d.bits (decoder k) words)) (memory_of words pending idle)
  -- where the background 0 is the first
  pub dynamic : (p : DynamicPrimitive) → IsDynamic p → slice_get d.backgrounds 0 ≡ Some 0 → DetectsDyn march p
      → (words pending : List ℕ) (armed : Bool) (idle : ℕ) → Begins d words pending → (at : DynPlaces) → FitsDynPlaces p at d.words d.bits
      → AnswersWrong march d HeldWords (dynamic p at) (memory_of (held_words words armed) pending idle)
