-- Inner. For proofs and private contracts alone: what searches in the lines of a text look for, and what they give.
use Rattle.std.specs.Prelude.{◌≡◌, ℕ, Bool, List, Option, Some, None, Result, Ok, Err, find, map, option_map}
use Rattle.chip_desc.specs.Chips.{UnitDescription, unit_of}
use Rattle.chip_desc.specs.ChipLines.{Content, unit, Statement}
use Rattle.chip_desc.specs.ChipTable.{at_line, first_of, missing, is_repeat, is_out_of_range, is_heavier, too_many, units_said}
use Rattle.chip_desc.specs.inner.Heard.{plain_statement}
use Rattle.chip_desc.specs.declared.chip.ChipUnit.{ChipUnit}
use Rattle.chip_desc.specs.declared.content.ChipKey.{ChipKey}
use Rattle.chip_desc.specs.declared.content.ChipStatement.{ChipStatement as ReadStatement}
use Rattle.chip_desc.specs.declared.fault.ChipField.{ChipField}
use Rattle.chip_desc.specs.declared.fault.ChipFault.{ChipFault}
use Rattle.chip_desc.specs.declared.fault.ChipFault.TheVariants.{Repeated, OutOfRange as OutOfRangeLine, TooHeavy}
use Rattle.chip_desc.specs.declared.search.ChipSought.{ChipSought}
use Rattle.chip_desc.specs.declared.search.ChipSought.TheVariants.{Repeat, OutOfRange, Heavier}

abbrev pub is_sought : ChipSought → List Statement → Statement → Bool
is_sought Repeat ss = λ s. is_repeat ss s
is_sought OutOfRange ss = λ s. is_out_of_range s.content
is_sought (Heavier most) ss = λ s. is_heavier most s.content

-- the refusal of a line that is sought
abbrev pub fault_of : ChipSought → ℕ → ChipFault
fault_of Repeat n = Repeated n
fault_of OutOfRange n = OutOfRangeLine n
fault_of (Heavier most) n = TooHeavy n

abbrev pub line_of : Option Statement → Option ℕ
line_of o = option_map (λ s. s.line) o

-- the first unit that weighs more
abbrev pub heavier_than : ℕ → List Statement → Option ChipFault
heavier_than most ss = at_line (λ n. TooHeavy n) (find (λ s. is_heavier most s.content) ss)

-- the line of a field that must be there
abbrev pub GivesField : List Statement → ChipKey → ChipField → Result ReadStatement ChipFault → Type 0
GivesField ss key field (Ok s) = first_of key ss ≡ Some (plain_statement s)
GivesField ss key field (Err fault) = missing key field ss ≡ Some fault

-- what a `unit` line says
abbrev pub unit_said : Option Content → Option UnitDescription
unit_said (Some (unit weight march memory)) = Some (record { weight = weight; march = march; memory = memory })
unit_said other = None

-- the units, or the refusal where there are too many
abbrev pub GivesUnits : List Statement → Result (List ChipUnit) ChipFault → Type 0
GivesUnits ss (Ok us) = (too_many ss ≡ None) × (map unit_of us ≡ units_said ss)
GivesUnits ss (Err fault) = too_many ss ≡ Some fault
