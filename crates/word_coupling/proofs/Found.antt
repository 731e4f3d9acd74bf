-- What is found by right verdicts of both readings is the verdict.
use Rattle.std.proofs.Common.{Bool, Option, Some, None, List}
use Rattle.std.specs.Prelude.{MatchBool}
use Rattle.fault_core.specs.Primitive.{Primitive}
use Rattle.march_core.specs.March.{MarchElement}
use Rattle.memory_desc.specs.Descriptions.{Description}
use Rattle.word_coupling.specs.declared.reading.Reading.{Reading}
use Rattle.word_coupling.specs.declared.reading.Reading.TheVariants.{Before, Behind}
use Rattle.word_coupling.specs.declared.reading.Readings.{Readings}
use Rattle.word_coupling.specs.declared.reading.Readings.TheVariants.{BeforeAlone, BehindAlone, Both}
use Rattle.word_coupling.specs.declared.judging.WordEscape.{WordEscape}
use Rattle.word_coupling.specs.Words.{DetectsBy, DetectsInWord}
use Rattle.word_coupling.specs.Escapes.{IsLeastWordEscape, EscapesBy, is_among, IsWordVerdict}
use Rattle.word_coupling.specs.inner.Searching.{IsVerdictBy, found_of}

escapes : (r : Reading) (march : List MarchElement) (d : Description) (p : Primitive) (e : WordEscape)
    → IsLeastWordEscape r march d p e × (DetectsBy r march d p → ⊥) → EscapesBy r march d p
escapes r march d p e h = record { escape = e; is_escape = h.0.escape; lacks = h.1 }

-- what is said of a reading: that it has an escape, or detects
abbrev pub Said : List MarchElement → Description → Primitive → Bool → Reading → Type 0
Said march d p has r = MatchBool has (EscapesBy r march d p) (DetectsBy r march d p)

of_each : (march : List MarchElement) (d : Description) (p : Primitive) (readings : Readings) → Said march d p (is_among Before readings) Before
    → Said march d p (is_among Behind readings) Behind → (r : Reading) → Said march d p (is_among r readings) r
of_each march d p readings h k Before = h
of_each march d p readings h k Behind = k

detects_each : (march : List MarchElement) (d : Description) (p : Primitive) → DetectsBy Before march d p → DetectsBy Behind march d p → DetectsInWord march d p
detects_each march d p h k Before = h
detects_each march d p h k Behind = k

pub found : (march : List MarchElement) (d : Description) (p : Primitive) (before behind : Option WordEscape)
    → IsVerdictBy Before march d p before → IsVerdictBy Behind march d p behind → IsWordVerdict march d p (found_of before behind)
found march d p None None h k = detects_each march d p h k
found march d p None (Some b) h k = record {
  each = of_each march d p BehindAlone h (escapes Behind march d p b k);
  least = k.0;
}
found march d p (Some a) None h k = record {
  each = of_each march d p BeforeAlone (escapes Before march d p a h) k;
  least = h.0;
}
found march d p (Some a) (Some b) h k = record {
  each = of_each march d p Both (escapes Before march d p a h) (escapes Behind march d p b k);
  least = h.0;
}
