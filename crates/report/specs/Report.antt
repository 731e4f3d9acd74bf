-- Trusted. The report of verdicts: the march, the memory where there is one, one line for each item of the list, one for each class that
-- occurs, and the total. Every line ends with a line feed.
use Rattle.std.specs.Prelude.{◌≡◌, ◌++◌, ◌&&◌, ℕ, zero, suc, Bool, if◌then◌else◌, Option, List, [], ◌∷◌, length, filter, count_by, map, take, codes, decimal}
use Rattle.std.specs.List.{flat_map}
use Rattle.std.specs.Str.{bytes_eq}
use Rattle.fault_core.specs.declared.table.Class.TheVariants.{SF, TF, WDF, RDF, DRDF, IRF, CFst, CFds, CFtr, CFwd, CFrd, CFdr, CFir, DRF}
use Rattle.fault_core.specs.Classes.{class_by_parts}
use Rattle.fault_syntax.specs.Names.{class_text as list_text}
use Rattle.march_core.specs.March.{MarchElement}
use Rattle.memory_desc.specs.Descriptions.{Description}
use Rattle.escape_array.specs.declared.escape.EscapeArray.{EscapeArray}
use Rattle.escape_array.specs.Escapes.{IsLeastEscape}
use Rattle.coverage.specs.declared.verdict.Verdict.{Verdict}
use Rattle.dynamic_core.specs.declared.item.Item.{Item}
use Rattle.dynamic_core.specs.declared.item.Item.TheVariants.{Plain, Dyn}
use Rattle.dynamic_core.specs.Primitive.{has_aggressor}
use Rattle.dynamic_core.specs.Printed.{printed_dynamic}
use Rattle.dynamic_prover.specs.declared.escape.DynEscape.{DynEscape}
use Rattle.dynamic_prover.specs.declared.escape.DynVerdict.{DynVerdict}
use Rattle.dynamic_prover.specs.Escapes.{LeastDyn}
use Rattle.report_lines.specs.Lines.{march_line, memory_line, total_line, prim_text, places_text, passing_text}
use Rattle.report_lines.specs.Listed.{CountsOf, AreLinesOf, IsVerdictLine, covered_line, escape_line}
use Rattle.report.specs.declared.class_lines.ItemClass.{ItemClass}
use Rattle.report.specs.declared.class_lines.ItemClass.TheVariants.{Static, DynOne, DynTwo}
use Rattle.report.specs.declared.judged.JudgedItem.{JudgedItem}
use Rattle.report.specs.Items.{DetectsItem, item_of, is_covered, covered_count}

-- the name of a class: that of a list where it is static
abbrev pub class_text : ItemClass → List ℕ
class_text (Static class) = list_text class
class_text DynOne = codes "DYN1"
class_text DynTwo = codes "DYN2"

-- the classes in their order: those of the table, that of the retention faults, and those of the dynamic primitives
abbrev pub class_order : List ItemClass
class_order =
    Static SF ∷ Static TF ∷ Static WDF ∷ Static RDF ∷ Static DRDF ∷ Static IRF ∷ Static CFst ∷ Static CFds ∷ Static CFtr ∷ Static CFwd
    ∷ Static CFrd ∷ Static CFdr ∷ Static CFir ∷ Static DRF ∷ DynOne ∷ DynTwo ∷ []

-- the place of a class in that order
abbrev pub class_number : ItemClass → ℕ
class_number (Static SF) = 0
class_number (Static TF) = 1
class_number (Static WDF) = 2
class_number (Static RDF) = 3
class_number (Static DRDF) = 4
class_number (Static IRF) = 5
class_number (Static CFst) = 6
class_number (Static CFds) = 7
class_number (Static CFtr) = 8
class_number (Static CFwd) = 9
class_number (Static CFrd) = 10
class_number (Static CFdr) = 11
class_number (Static CFir) = 12
class_number (Static DRF) = 13
class_number DynOne = 14
class_number DynTwo = 15

-- the class of an item; that of a dynamic primitive says how many cells take part
abbrev pub item_class : Item → ItemClass
item_class (Plain p) = Static (class_by_parts p)
item_class (Dyn p) = if has_aggressor p then DynTwo else DynOne

-- whether an item is of this class: its own has the same name
abbrev pub is_in_class : ItemClass → Item → Bool
is_in_class c item = bytes_eq (class_text (item_class item)) (class_text c)

-- an item and its class
abbrev pub item_text : Item → List ℕ
item_text (Plain p) = prim_text p
item_text (Dyn p) = printed_dynamic p ++ codes " " ++ class_text (item_class (Dyn p))

-- an escape of a march with so many elements: its content is that before closing
abbrev pub escape_text : ℕ → EscapeArray → List ℕ
escape_text size e = places_text e.agg e.vic ++ passing_text size e.content e.directions

-- how many cells the array of an escape has, and where its instance stands
abbrev pub dyn_places_text : DynEscape → List ℕ
dyn_places_text e = codes " cells " ++ decimal e.size ++ places_text e.agg e.vic

-- an escape of a dynamic primitive, with a digit for each of its cells
abbrev pub dyn_escape_text : ℕ → DynEscape → List ℕ
dyn_escape_text size e = dyn_places_text e ++ passing_text size (take e.size e.content) e.directions

-- the line of a judged item under a march with so many elements
abbrev pub judged_line : ℕ → JudgedItem → List ℕ
judged_line size (JudgedItem.Plain p Verdict.Covered) = covered_line (item_text (Plain p))
judged_line size (JudgedItem.Plain p (Verdict.Escape e)) = escape_line (item_text (Plain p)) (escape_text size e)
judged_line size (JudgedItem.Dyn p DynVerdict.Covered) = covered_line (item_text (Dyn p))
judged_line size (JudgedItem.Dyn p (DynVerdict.Escape e)) = escape_line (item_text (Dyn p)) (dyn_escape_text size e)

-- the lines of judged items
abbrev pub judged_lines : ℕ → List JudgedItem → List ℕ
judged_lines size judged = flat_map (judged_line size) judged

-- how many items are of this class, repeats included
abbrev pub class_size : ItemClass → List Item → ℕ
class_size c items = count_by (is_in_class c) items

-- whether a judged item is of this class, and covered
abbrev pub is_covered_in : ItemClass → JudgedItem → Bool
is_covered_in c j = is_in_class c (item_of j) && is_covered j

-- how many of them are covered
abbrev pub class_covered : ItemClass → List JudgedItem → ℕ
class_covered c judged = count_by (is_covered_in c) judged

-- the line of a class with so many items, of which so many are covered; a class that doesn't occur has none
abbrev pub class_line : ItemClass → ℕ → ℕ → List ℕ
class_line c zero covered = []
class_line c (suc n) covered = codes "class " ++ class_text c ++ codes " " ++ decimal (suc n) ++ codes " covered "
    ++ decimal covered ++ codes "\n"

-- the lines of these classes
abbrev pub class_lines : List ItemClass → List JudgedItem → List ℕ
class_lines classes judged = flat_map (λ c. class_line c (class_size c (map item_of judged)) (class_covered c judged)) classes

-- the lines of judged items as a report
abbrev pub report_text : List MarchElement → Option Description → List JudgedItem → List ℕ
report_text march memory judged =
    march_line march ++ memory_line march memory ++ judged_lines (length march) judged ++ class_lines class_order judged
    ++ total_line (length judged) (covered_count judged)

-- What a report says, whatever the verdicts were made from.

-- the march detects so many of these items, repeats included
abbrev pub DetectsOf : List MarchElement → List Item → ℕ → Type 0
DetectsOf march items n = CountsOf (DetectsItem march) items n

-- the text is that of the least escape of an item
abbrev pub IsEscapeText : List MarchElement → Item → List ℕ → Type 0
IsEscapeText march (Plain p) text = (e : EscapeArray) × (e.prim ≡ p) × IsLeastEscape march e × (text ≡ escape_text (length march) e)
IsEscapeText march (Dyn p) text = (e : DynEscape) × (e.prim ≡ p) × LeastDyn march e × (text ≡ dyn_escape_text (length march) e)

-- the line of an item: covered exactly where the march detects it, and else its least escape
abbrev pub IsLine : List MarchElement → Item → List ℕ → Type 0
IsLine march item line = IsVerdictLine (item_text item) (DetectsItem march item) (IsEscapeText march item) line

-- the line of a class: the number of its items, and of those that the march detects
abbrev pub IsClassLine : List MarchElement → List Item → ItemClass → List ℕ → Type 0
IsClassLine march items c line =
    (covered : ℕ) × DetectsOf march (filter (is_in_class c) items) covered × (line ≡ class_line c (class_size c items) covered)

-- The bytes are the report of these items. Without dynamic ones it has no line of their classes, and no escape with a size.
pub record IsMixedReport (text : List ℕ) (march : List MarchElement) (memory : Option Description) (items : List Item) : Type 0 where
  pub lines : List ℕ
  pub classes : List ℕ
  pub covered : ℕ
  pub are_lines : AreLinesOf (IsLine march) items lines
  pub are_classes : AreLinesOf (IsClassLine march items) class_order classes
  pub detects : DetectsOf march items covered
  pub is : text ≡ march_line march ++ memory_line march memory ++ lines ++ classes ++ total_line (length items) covered
