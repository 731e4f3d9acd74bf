-- Trusted. The report of `inword`: the march, the memory, one line for each coupling of the list, how many other primitives the list has,
-- and the total. In a memory of one bit a word no coupling is judged, and a line says how many there are. Every line ends with a line feed.
use Rattle.std.specs.Prelude.{◌≡◌, ◌==◌, ◌-◌, ◌++◌, ◌⊎◌, ℕ, Bool, if◌then◌else◌, Some, List, [], ◌∷◌, length, codes, decimal}
use Rattle.std.specs.List.{flat_map}
use Rattle.fault_core.specs.Primitive.{Primitive, has_aggressor}
use Rattle.march_core.specs.March.{MarchElement}
use Rattle.memory_desc.specs.Descriptions.{Description}
use Rattle.dynamic_core.specs.declared.item.Item.{Item}
use Rattle.dynamic_core.specs.declared.item.Item.TheVariants.{Plain, Dyn}
use Rattle.report_lines.specs.Lines.{march_line, memory_line, total_line, prim_text, places_text, content_text}
use Rattle.report_lines.specs.Listed.{CountsOf, AreLinesOf, ReportsOf}
use Rattle.word_coupling.specs.declared.reading.Readings.{Readings}
use Rattle.word_coupling.specs.declared.reading.Readings.TheVariants.{BeforeAlone, BehindAlone, Both}
use Rattle.word_coupling.specs.declared.judging.WordEscape.{WordEscape}
use Rattle.word_coupling.specs.declared.judging.FoundEscape.{FoundEscape}
use Rattle.word_coupling.specs.Words.{DetectsInWord}
use Rattle.word_coupling.specs.Escapes.{IsFirstEscape}

-- the couplings of a list are its static primitives of two cells, in their order, repeats included
abbrev pub coupling_of : Item → List Primitive
coupling_of (Plain p) = if has_aggressor p then p ∷ [] else []
coupling_of (Dyn p) = []

abbrev pub couplings : List Item → List Primitive
couplings items = flat_map coupling_of items

-- those that are judged: none where a word has no two bits
abbrev pub judged_in : Description → List Item → List Primitive
judged_in d items = if d.bits == 1 then [] else couplings items

-- the two bits of an escape, and what they hold before closing, the aggressor's digit first
abbrev pub word_escape_text : WordEscape → List ℕ
word_escape_text e = places_text (Some e.agg) e.vic ++ (codes " content " ++ content_text (e.content.a ∷ e.content.v ∷ []))

-- the readings in which the primitive escapes
abbrev pub readings_text : Readings → List ℕ
readings_text BeforeAlone = codes " reading before"
readings_text BehindAlone = codes " reading behind"
readings_text Both = codes " reading both"

-- the line of a coupling that is covered, and of one that escapes
abbrev pub covered_line : Primitive → List ℕ
covered_line p = codes "covered " ++ prim_text p ++ codes "\n"

abbrev pub escape_line : Primitive → FoundEscape → List ℕ
escape_line p f = codes "escape " ++ prim_text p ++ word_escape_text f.at ++ readings_text f.readings ++ codes "\n"

-- covered exactly where the test detects it at every two bits of every word in each reading; else with the readings in which it has an
-- escape, and the least escape of the first of them
abbrev pub IsCouplingLine : List MarchElement → Description → Primitive → List ℕ → Type 0
IsCouplingLine march d p line =
    (DetectsInWord march d p × (line ≡ covered_line p))
    ⊎ ((f : FoundEscape) × IsFirstEscape march d p f × (line ≡ escape_line p f))

-- how many primitives of the list are no couplings
abbrev pub apart_line : ℕ → List ℕ
apart_line count = codes "apart " ++ decimal count ++ codes "\n"

-- how many couplings there are, where a word has no two bits
abbrev pub unpaired_line : Description → ℕ → List ℕ
unpaired_line d count = if d.bits == 1 then codes "no two bits " ++ decimal count ++ codes "\n" else []

-- the bytes are the report of these items
pub record IsInWordReport (text : List ℕ) (march : List MarchElement) (d : Description) (items : List Item) : Type 0 where
  pub lines : List ℕ
  pub covered : ℕ
  pub are_lines : AreLinesOf (IsCouplingLine march d) (judged_in d items) lines
  pub detects : CountsOf (DetectsInWord march d) (judged_in d items) covered
  pub is :
      text
      ≡ march_line march ++ memory_line march (Some d) ++ lines ++ apart_line (length items - length (couplings items))
      ++ unpaired_line d (length (couplings items)) ++ total_line (length (judged_in d items)) covered

-- the report, its last line, and whether some coupling escapes
abbrev pub ReportsInWord : List MarchElement → Description → List Item → Bool → List ℕ → List ℕ → Type 0
ReportsInWord march d items = ReportsOf (λ bytes. IsInWordReport bytes march d items) (DetectsInWord march d) (judged_in d items)

-- two texts that are the report of the same items are the same
abbrev pub OneInWordText : Type 0
OneInWordText = (march : List MarchElement) (d : Description) (items : List Item) (text other : List ℕ)
    → IsInWordReport text march d items → IsInWordReport other march d items → text ≡ other
