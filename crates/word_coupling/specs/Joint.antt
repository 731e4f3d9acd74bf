-- Public. A self-test beside a chip with an instance in one word. A chip finds the states of an instance before an operation.
use Rattle.std.specs.Prelude.{◌≡◌, ◌<◌, ℕ, true, Some, List, [], length}
use Rattle.fault_core.specs.Primitive.{Primitive, IsPrimitive, has_aggressor}
use Rattle.march_core.specs.March.{MarchElement}
use Rattle.memory_desc.specs.Descriptions.{Description}
use Rattle.word_march.specs.PortRule.{PortValues}
use Rattle.word_device.specs.declared.device.Planted.{Planted}
use Rattle.word_device.specs.Chips.{closed_words}
use Rattle.word_device.specs.Ports.{Chip}
use Rattle.word_device.specs.Runs.{run_word, SomeWrong}
use Rattle.word_device.specs.Joint.{Joined, EndsFailing, EndsPassing}
use Rattle.word_coupling.specs.declared.reading.Reading.TheVariants.{Before}
use Rattle.word_coupling.specs.declared.judging.WordEscape.{WordEscape}
use Rattle.word_coupling.specs.Escapes.{Holds, IsWordEscape}
use Rattle.word_coupling.specs.Words.{in_word, AreBits, DetectsBy}

-- the chip has the memory's words, and the primitive is planted in it at two bits of a word, closed; the test detects it there
pub record HasDetectedInWord (march : List MarchElement) (d : Description) (p : Primitive) (word agg vic : ℕ) (chip : Chip) : Type 0 where
  pub words : length chip.words ≡ d.words
  pub planted : chip.planted ≡ Some (in_word p word agg vic)
  pub primitive : IsPrimitive p
  pub places : AreBits d word agg vic
  pub closed : closed_words (in_word p word agg vic) chip.words ≡ chip.words
  pub detected : DetectsBy Before march d p

-- a chip with an instance whose stored words are these, closed, and nothing under way
abbrev pub chip_with : Planted → List ℕ → Chip
chip_with i content = record { words = closed_words i content; planted = Some i; pending = []; idle = 0 }

-- each content is that of such a chip
abbrev pub AreDetectedChips : List MarchElement → Description → Type 0
AreDetectedChips march d =
    (p : Primitive) (word agg vic : ℕ) (content : List ℕ) → IsPrimitive p → AreBits d word agg vic → length content ≡ d.words
    → DetectsBy Before march d p → HasDetectedInWord march d p word agg vic (chip_with (in_word p word agg vic) content)

-- such a chip answers some read of the march wrong
abbrev pub FailsInWord : List MarchElement → Description → Type 0
FailsInWord march d =
    (p : Primitive) (word agg vic : ℕ) (chip : Chip) → HasDetectedInWord march d p word agg vic chip
    → SomeWrong march d (run_word march d chip)

-- and a self-test beside it ends with `fail`
abbrev pub JointFailsInWord : List MarchElement → Description → Type 0
JointFailsInWord march d =
    (p : Primitive) (word agg vic : ℕ) (chip : Chip) (q : ℕ → PortValues) (returned : ℕ → ℕ) (last : ℕ)
    → HasDetectedInWord march d p word agg vic chip → Joined march d chip q returned last → EndsFailing (q last)

-- the chip has the memory's words, and the primitive is planted in it at the two bits of an escape, in whichever word, and with the
-- escape's content, closed
pub record HasEscapeInWord (march : List MarchElement) (d : Description) (p : Primitive) (word : ℕ) (e : WordEscape)
    (chip : Chip) : Type 0 where
  pub planted : chip.planted ≡ Some (in_word p word e.agg e.vic)
  pub primitive : IsPrimitive p
  pub two_cell : has_aggressor p ≡ true
  pub within : word < d.words
  pub escape : IsWordEscape Before march d p e
  pub content : List ℕ
  pub words : length content ≡ d.words
  pub holds : Holds content word e
  pub closed : chip.words ≡ closed_words (in_word p word e.agg e.vic) content

-- each content that holds an escape's is that of such a chip
abbrev pub AreEscapeChips : List MarchElement → Description → Type 0
AreEscapeChips march d =
    (p : Primitive) (word : ℕ) (e : WordEscape) (content : List ℕ) → IsPrimitive p → has_aggressor p ≡ true → word < d.words
    → IsWordEscape Before march d p e → length content ≡ d.words → Holds content word e
    → HasEscapeInWord march d p word e (chip_with (in_word p word e.agg e.vic) content)

-- a self-test beside such a chip ends without `fail`
abbrev pub JointPassesInWord : List MarchElement → Description → Type 0
JointPassesInWord march d =
    (p : Primitive) (word : ℕ) (e : WordEscape) (chip : Chip) (q : ℕ → PortValues) (returned : ℕ → ℕ) (last : ℕ)
    → HasEscapeInWord march d p word e chip → Joined march d chip q returned last → EndsPassing march d returned (q last)
