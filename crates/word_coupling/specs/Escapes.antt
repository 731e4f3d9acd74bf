-- Trusted. Two bits of a word at which an instance passes the test of a memory, and the least of them.
use Rattle.std.specs.Prelude.{◌≡◌, ◌≢◌, ◌<◌, ◌≤◌, ◌+◌, ◌⊎◌, ℕ, Bool, true, false, if◌then◌else◌, MatchBool, Option, Some, None, List, length, slice_index}
use Rattle.fault_core.specs.Primitive.{Primitive}
use Rattle.cell_machine.specs.declared.pair.Pair.{Pair}
use Rattle.march_core.specs.March.{MarchElement}
use Rattle.memory_desc.specs.Descriptions.{Description}
use Rattle.word_device.specs.Chips.{has_bit}
use Rattle.word_coupling.specs.declared.reading.Reading.{Reading}
use Rattle.word_coupling.specs.declared.reading.Reading.TheVariants.{Before, Behind}
use Rattle.word_coupling.specs.declared.reading.Readings.{Readings}
use Rattle.word_coupling.specs.declared.reading.Readings.TheVariants.{BeforeAlone, BehindAlone, Both}
use Rattle.word_coupling.specs.declared.judging.WordEscape.{WordEscape}
use Rattle.word_coupling.specs.declared.judging.FoundEscape.{FoundEscape}
use Rattle.word_coupling.specs.Words.{in_word, IsCaughtInWord, DetectsBy, DetectsInWord}

-- the two bits of a word hold the escape's content
pub record Holds (content : List ℕ) (word : ℕ) (e : WordEscape) : Type 0 where
  pub agg : has_bit (slice_index content word) e.agg ≡ e.content.a
  pub vic : has_bit (slice_index content word) e.vic ≡ e.content.v

-- in this reading no read differs, whichever word it is, and whatever its other bits and the other words hold
pub record IsWordEscape (reading : Reading) (march : List MarchElement) (d : Description) (p : Primitive) (e : WordEscape) : Type 0 where
  pub agg_within : e.agg < d.bits
  pub vic_within : e.vic < d.bits
  pub apart : e.agg ≢ e.vic
  pub passes : (word : ℕ) (content : List ℕ) → word < d.words → length content ≡ d.words → Holds content word e
      → IsCaughtInWord reading march d (in_word p word e.agg e.vic) content → ⊥

-- contents in their order: 00, 01, 10, 11, the aggressor's digit first
abbrev pub content_number : Pair → ℕ
content_number content = (if content.a then 2 else 0) + (if content.v then 1 else 0)

-- the order of escapes: by the victim's bit, then by the aggressor's, then by content
abbrev pub IsNoGreater : WordEscape → WordEscape → Type 0
IsNoGreater e f =
    (e.vic < f.vic)
    ⊎ ((e.vic ≡ f.vic) × ((e.agg < f.agg) ⊎ ((e.agg ≡ f.agg) × (content_number e.content ≤ content_number f.content))))

pub record IsLeastWordEscape (reading : Reading) (march : List MarchElement) (d : Description) (p : Primitive) (e : WordEscape) : Type 0 where
  pub escape : IsWordEscape reading march d p e
  pub least : (f : WordEscape) → IsWordEscape reading march d p f → IsNoGreater e f

-- in a reading the primitive has an escape, and so the test doesn't detect it
pub record EscapesBy (reading : Reading) (march : List MarchElement) (d : Description) (p : Primitive) : Type 0 where
  pub escape : WordEscape
  pub is_escape : IsWordEscape reading march d p escape
  pub lacks : DetectsBy reading march d p → ⊥

-- which readings these are, and the first of them
abbrev pub is_among : Reading → Readings → Bool
is_among Before BeforeAlone = true
is_among Before BehindAlone = false
is_among Before Both = true
is_among Behind BeforeAlone = false
is_among Behind BehindAlone = true
is_among Behind Both = true

abbrev pub first_of : Readings → Reading
first_of BeforeAlone = Before
first_of BehindAlone = Behind
first_of Both = Before

-- in each reading the primitive has an escape or is detected, and these are the readings in which it has one; the bits are the least
-- escape of the first of them
pub record IsFirstEscape (march : List MarchElement) (d : Description) (p : Primitive) (f : FoundEscape) : Type 0 where
  pub each : (reading : Reading) → MatchBool (is_among reading f.readings) (EscapesBy reading march d p) (DetectsBy reading march d p)
  pub least : IsLeastWordEscape (first_of f.readings) march d p f.at

-- nothing exactly where the test detects the primitive in each reading
abbrev pub IsWordVerdict : List MarchElement → Description → Primitive → Option FoundEscape → Type 0
IsWordVerdict march d p None = DetectsInWord march d p
IsWordVerdict march d p (Some f) = IsFirstEscape march d p f
