-- Trusted. The refusals of a chip file whose lines are all of the table, in their order, and the chip that it describes.
use Rattle.std.specs.Prelude.{◌≡◌, ◌⊎◌, ℕ, ◌||◌, ◌&&◌, Bool, true, false, not, nat_lt, if◌then◌else◌, List, [], ◌∷◌, ◌++◌, length, Option, Some, None, Result, Ok, Err, find}
pub use Rattle.bist_text.specs.KeyedTexts.{at_line, content_of, is_other}
use Rattle.bist_text.specs.KeyedTexts.{AreRefused, first_refusal, unless_there}
use Rattle.bist_text.specs.Lines.{text_lines}
use Rattle.bist_text.specs.ReservedWords.{is_among, reserved_words}
use Rattle.chip_desc.specs.Chips.{ChipDescription, UnitDescription}
use Rattle.chip_desc.specs.ChipLines.{Content, name, budget, unit, kind_of, ContentText, stands, version_in, Statement, AreStatements}
use Rattle.bist_text.specs.declared.keyed_lines.TextFault.{TextFault}
use Rattle.bist_text.specs.declared.keyed_lines.TextFault.TheVariants as T
use Rattle.chip_desc.specs.declared.fault.ChipField.{ChipField}
use Rattle.chip_desc.specs.declared.fault.ChipField.TheVariants.{Name as NameField, Budget as BudgetField, Unit as UnitField}
use Rattle.chip_desc.specs.declared.fault.ChipFault.{ChipFault}
use Rattle.chip_desc.specs.declared.fault.ChipFault.TheVariants.{Unexpected, Truncated, OtherVersion, Repeated, Missing, OutOfRange, TooManyUnits, TooHeavy}
use Rattle.chip_desc.specs.declared.content.ChipKey.{ChipKey}
use Rattle.chip_desc.specs.declared.content.ChipKey.TheVariants.{Chip, Name, Budget, Unit as OfUnit}

abbrev pub is_key : ChipKey → ChipKey → Bool
is_key Chip Chip = true
is_key Name Name = true
is_key Budget Budget = true
is_key OfUnit OfUnit = true
is_key k l = false

-- the first statement of a kind
abbrev pub first_of : ChipKey → List Statement → Option Statement
first_of key ss = find (λ s. is_key key (kind_of s.content)) ss

-- ---- C3: an earlier line of a kind of which there is one

abbrev pub is_repeat : List Statement → Statement → Bool
is_repeat ss s = not (is_key OfUnit (kind_of s.content)) && is_other s.line (first_of (kind_of s.content) ss)

abbrev pub repeated : List Statement → Option ChipFault
repeated ss = at_line (λ n. Repeated n) (find (is_repeat ss) ss)

-- ---- C4: a field is missing

abbrev pub missing : ChipKey → ChipField → List Statement → Option ChipFault
missing key field ss = unless_there (Missing field) (first_of key ss)

-- ---- C5: a name, a budget, a weight or the name of a file outside its range

abbrev pub is_outside : ℕ → Bool
is_outside n = nat_lt n 1 || nat_lt 1000000 n

abbrev pub is_out_of_range : Content → Bool
is_out_of_range (name b) = nat_lt 48 (length b) || is_among b reserved_words
is_out_of_range (budget n) = is_outside n
is_out_of_range (unit weight march memory) = is_outside weight || nat_lt 255 (length march) || nat_lt 255 (length memory)
is_out_of_range other = false

abbrev pub out_of_range : List Statement → Option ChipFault
out_of_range ss = at_line (λ n. OutOfRange n) (find (λ s. is_out_of_range s.content) ss)

-- ---- the values that the statements give

abbrev pub name_in : Option Content → List ℕ
name_in (Some (name b)) = b
name_in other = []

abbrev pub budget_in : Option Content → ℕ
budget_in (Some (budget n)) = n
budget_in other = 0

abbrev pub name_said : List Statement → List ℕ
name_said ss = name_in (content_of (first_of Name ss))

abbrev pub budget_said : List Statement → ℕ
budget_said ss = budget_in (content_of (first_of Budget ss))

abbrev pub unit_in : Content → List UnitDescription
unit_in (unit weight march memory) = (record { weight = weight; march = march; memory = memory }) ∷ []
unit_in other = []

-- the units, in the order of their lines
abbrev pub units_said : List Statement → List UnitDescription
units_said [] = []
units_said (s ∷ ss) = unit_in s.content ++ units_said ss

-- ---- C6: more than 16 units

abbrev pub too_many : List Statement → Option ChipFault
too_many ss = if nat_lt 16 (length (units_said ss)) then Some TooManyUnits else None

-- ---- C9: a weight above the budget

abbrev pub is_heavier : ℕ → Content → Bool
is_heavier most (unit weight march memory) = nat_lt most weight
is_heavier most other = false

abbrev pub too_heavy : List Statement → Option ChipFault
too_heavy ss = at_line (λ n. TooHeavy n) (find (λ s. is_heavier (budget_said ss) s.content) ss)

-- ---- the whole

-- the first refusal of the statements
abbrev pub refusal : List Statement → Option ChipFault
refusal ss =
    first_refusal
    (repeated ss ∷ missing Name NameField ss ∷ missing Budget BudgetField ss ∷ missing OfUnit UnitField ss ∷ out_of_range ss ∷ too_many ss ∷ too_heavy ss ∷ [])

-- the chip that statements describe
abbrev pub described : List Statement → ChipDescription
described ss = record { name = name_said ss; budget = budget_said ss; units = units_said ss }

-- the refusal for its lines
abbrev pub of_lines : TextFault → ChipFault
of_lines (T.Unexpected line byte) = Unexpected line byte
of_lines T.Truncated = Truncated
of_lines T.OtherVersion = OtherVersion

-- the chip that statements describe, or their refusal
abbrev pub by_statements : Option ChipFault → List Statement → Result ChipDescription ChipFault
by_statements None ss = Ok (described ss)
by_statements (Some fault) ss = Err fault

-- What a text is read as: a line is refused, or its statements are refused or describe a chip.
unfoldable pub Reads : List ℕ → Result ChipDescription ChipFault → Type 0
Reads bytes r =
    ((fault : TextFault) × AreRefused ContentText stands version_in (text_lines bytes) None fault × (r ≡ Err (of_lines fault)))
    ⊎ ((ss : List Statement) × AreStatements bytes ss × (r ≡ by_statements (refusal ss) ss))
