-- Trusted. A memory of words with an instance of a primitive at two bits of one word, in a reading.
use Rattle.std.specs.Prelude.{◌≡◌, ◌+◌, ℕ, Some, List, length}
use Rattle.fault_core.specs.Primitive.{Primitive, IsPrimitive}
use Rattle.march_core.specs.March.{MarchElement}
use Rattle.memory_desc.specs.Descriptions.{Description}
use Rattle.word_march.specs.declared.operations.WordOp.{WordOp}
use Rattle.word_device.specs.declared.device.Planted.{Planted}
use Rattle.word_device.specs.Chips.{closed_words, paused_words, reply_to}
use Rattle.word_device.specs.Memories.{Behaviour, Memory, words_with}
use Rattle.word_device.specs.Answers.{HasWords, Claim, AnswersWrong}
use Rattle.word_coupling.specs.declared.reading.Reading.{Reading}
use Rattle.word_coupling.specs.declared.reading.Reading.TheVariants.{Before}
use Rattle.word_coupling.specs.Words.{in_word, AreBits, words_by, DetectsBy}

-- what an operation leaves is found in this reading, and all else is as in any memory with an instance
abbrev pub read_by : Reading → Planted → Behaviour (List ℕ)
read_by reading i = record { after = words_by reading i; reply = reply_to (Some i); idled = λ words. words; paused = paused_words i }

-- said of each memory with an instance of this primitive at two bits of a word, any two of any word
abbrev pub EachInWord : Claim → Description → Reading → Primitive → Type 0
EachInWord Says d reading p =
    (m : Memory (List ℕ)) (word agg vic : ℕ) → HasWords d m → AreBits d word agg vic
    → Says (List ℕ) (read_by reading (in_word p word agg vic)) (record m { state = closed_words (in_word p word agg vic) m.state })

-- of each primitive that the test of the memory detects there in the reading
abbrev pub OfDetectedInWord : Claim → List MarchElement → Description → Type 0
OfDetectedInWord Says march d = (p : Primitive) (reading : Reading) → IsPrimitive p → DetectsBy reading march d p → EachInWord Says d reading p

-- each such memory answers some read wrong
abbrev pub InWordWrong : List MarchElement → Description → Type 0
InWordWrong march d = OfDetectedInWord (AnswersWrong march d) march d

-- so each of them does: whatever its words hold, whatever answers are under way, and however long it was idle
abbrev pub EachInWordWrong : List MarchElement → Description → Type 0
EachInWordWrong march d =
    (p : Primitive) (reading : Reading) → IsPrimitive p → DetectsBy reading march d p → (words pending : List ℕ) (idle : ℕ) → length words ≡ d.words
    → length pending + 1 ≡ d.latency → (word agg vic : ℕ) → AreBits d word agg vic
    → AnswersWrong march d (List ℕ) (read_by reading (in_word p word agg vic))
    (record { state = closed_words (in_word p word agg vic) words; pending = pending; idle = idle })

-- in the reading before it is a memory with the instance
pub record IsPlantedSo (i : Planted) (words : List ℕ) : Type 0 where
  pub after : (o : WordOp) → (read_by Before i).after words o ≡ (words_with (Some i)).after words o
  pub reply : (o : WordOp) → (read_by Before i).reply words o ≡ (words_with (Some i)).reply words o
  pub paused : (read_by Before i).paused words ≡ (words_with (Some i)).paused words

abbrev pub BeforeIsPlanted : Type 0
BeforeIsPlanted = (i : Planted) (words : List ℕ) → IsPlantedSo i words
