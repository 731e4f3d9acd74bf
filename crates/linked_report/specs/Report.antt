-- Trusted. The report on linked faults: the march, a line for each link in the order of the table, one for each kind,
-- one for the different devices among them, and the total.
use Rattle.std.specs.Prelude.{◌≡◌, ◌++◌, ℕ, Bool, List, [], ◌∷◌, length, filter, count_by, codes, decimal}
use Rattle.std.specs.Str.{bytes_eq}
use Rattle.fault_syntax.specs.Printed.{printed as printed_prim}
use Rattle.march_core.specs.March.{MarchElement}
use Rattle.report_lines.specs.Lines.{march_line, total_line, aggressor_text, passing_text}
use Rattle.report_lines.specs.Listed.{CountsOf, AreLinesOf, IsVerdictLine, ReportsOf}
use Rattle.linked_faults.specs.declared.link.Link.{Link}
use Rattle.linked_faults.specs.declared.table.LinkKind.{LinkKind}
use Rattle.linked_faults.specs.declared.table.LinkKind.TheVariants.{LF1, LF2aa, LF2av, LF2va, LF3}
use Rattle.linked_faults.specs.declared.escape.LinkEscape.{LinkEscape}
use Rattle.linked_faults.specs.Kinds.{kind_of, AreLinks}
use Rattle.linked_faults.specs.Linking.{first_places, second_places}
use Rattle.linked_faults.specs.Devices.{AreDevices}
use Rattle.linked_faults.specs.Detection.{Detects}
use Rattle.linked_faults.specs.Escapes.{cells_of, IsLeastEscape}

abbrev pub kind_text : LinkKind → List ℕ
kind_text LF1 = codes "LF1"
kind_text LF2aa = codes "LF2aa"
kind_text LF2av = codes "LF2av"
kind_text LF2va = codes "LF2va"
kind_text LF3 = codes "LF3"

-- the kinds in their order
abbrev pub kind_order : List LinkKind
kind_order = LF1 ∷ LF2aa ∷ LF2av ∷ LF2va ∷ LF3 ∷ []

-- a link: its kind, and its two primitives
abbrev pub link_text : Link → List ℕ
link_text link = kind_text (kind_of link) ++ codes " " ++ printed_prim link.first ++ codes " " ++ printed_prim link.second

-- the cells of an array of three: the first's aggressor, the second's, and the victim
abbrev pub spots_text : LinkEscape → List ℕ
spots_text e =
    codes " a " ++ aggressor_text (first_places e.link e.spots).agg ++ codes " b " ++ aggressor_text (second_places e.link e.spots).agg
    ++ codes " v " ++ decimal e.spots.v

-- the cells of an escape of a march with so many elements, what they hold, and the directions
abbrev pub escape_text : ℕ → LinkEscape → List ℕ
escape_text size e = spots_text e ++ passing_text size (cells_of e.content) e.directions

-- the text is that of the least escape of a link
abbrev pub IsEscapeText : List MarchElement → Link → List ℕ → Type 0
IsEscapeText march link text = (e : LinkEscape) × (e.link ≡ link) × IsLeastEscape march e × (text ≡ escape_text (length march) e)

-- the line of a link: covered exactly where the march detects it at every size, and else its least escape
abbrev pub IsLinkLine : List MarchElement → Link → List ℕ → Type 0
IsLinkLine march link line = IsVerdictLine (link_text link) (Detects march link) (IsEscapeText march link) line

-- whether a link is of this kind: its own has the same name
abbrev pub is_of_kind : LinkKind → Link → Bool
is_of_kind kind link = bytes_eq (kind_text (kind_of link)) (kind_text kind)

-- the line of a kind with so many links, of which so many are covered
abbrev pub kind_line : LinkKind → ℕ → ℕ → List ℕ
kind_line kind count covered = codes "kind " ++ kind_text kind ++ codes " " ++ total_line count covered

-- how many of these links are of a kind
abbrev pub kind_size : LinkKind → List Link → ℕ
kind_size kind links = count_by (is_of_kind kind) links

-- of a kind: how many of these links it has, and how many of them the march detects
abbrev pub IsKindLine : List MarchElement → List Link → LinkKind → List ℕ → Type 0
IsKindLine march links kind line =
    (covered : ℕ) × CountsOf (Detects march) (filter (is_of_kind kind) links) covered
    × (line ≡ kind_line kind (kind_size kind links) covered)

-- the line of the different devices: a link and the one with its two exchanged are one
abbrev pub devices_line : ℕ → ℕ → List ℕ
devices_line count covered = codes "devices " ++ total_line count covered

-- The bytes are the report of a march on the linked faults.
pub record IsLinkedReport (text : List ℕ) (march : List MarchElement) : Type 0 where
  pub links : List Link
  pub are_links : AreLinks links
  pub lines : List ℕ
  pub kinds : List ℕ
  pub covered : ℕ
  pub are_lines : AreLinesOf (IsLinkLine march) links lines
  pub are_kinds : AreLinesOf (IsKindLine march links) kind_order kinds
  pub detects : CountsOf (Detects march) links covered
  pub devices : List Link
  pub are_devices : AreDevices links devices
  pub devices_covered : ℕ
  pub devices_detects : CountsOf (Detects march) devices devices_covered
  pub is : text ≡ march_line march ++ lines ++ kinds ++ devices_line (length devices) devices_covered ++ total_line (length links) covered

-- what is written and said: the report, whether a link escapes it, and its last line
pub record ReportsLinks (march : List MarchElement) (escapes : Bool) (bytes line : List ℕ) : Type 0 where
  pub links : List Link
  pub are_links : AreLinks links
  pub reports : ReportsOf (λ text. IsLinkedReport text march) (Detects march) links escapes bytes line
