-- Trusted. The command `chip CHIPFILE VERILOG`: several memories of one chip, each tested by a march, within a power budget. Its checks in
-- their order, and what it leaves.
use Rattle.std.specs.Prelude.{◌≡◌, ◌<◌, ◌++◌, ◌⊎◌, ℕ, suc, false, List, [], ◌∷◌, length, slice_get, Option, Some, Result, Ok, Err, codes, decimal}
use Rattle.bist_host.specs.Files.{Files}
use Rattle.memory_desc.specs.Descriptions.{Description}
use Rattle.self_test.specs.SelfTest.{module_name}
use Rattle.chip_desc.specs.Chips.{ChipDescription, UnitDescription}
use Rattle.chip_plan.specs.Groups.{last_group, end_of}
use Rattle.chip_rtl.specs.ChipTest.{TestUnit, lengths}
use Rattle.std.specs.List.{AllByRecursion}
use Rattle.verilog_tree.specs.Plain.{ModuleTree}
use Rattle.verilog_tree.specs.Spells.{FreelySpells}
use Rattle.verilog_emit.specs.Printed.{printed}
use Rattle.chip_rtl.specs.ChipLaws.{AllShow, memories}
use Rattle.chip_rtl.specs.ChipFile.{ChipFile}
use Rattle.bist_endings.specs.declared.ending.ChipRefusal.{ChipRefusal}
use Rattle.bist_endings.specs.declared.ending.Refusal.{Refusal}
use Rattle.bist_endings.specs.Ending.{Done}
use Rattle.bist_endings.specs.Then.{Then, OrNoMemory}
use Rattle.bist_endings.specs.Words.{Words}
use Rattle.bist_inputs.specs.Chips.{InputChip, UnitMarch, UnitMemory}
use Rattle.bist_app.specs.Forms.{Form, Row, without_boxes}

-- ---- the units

-- the unit of this number: the march and the memory of its files, the march being read first
unfoldable pub GivesUnit : Option Files → ℕ → UnitDescription → Result TestUnit Refusal → Type 0
GivesUnit files number d =
    Then (UnitMarch files number d.march) (λ march.
    Then (UnitMemory files number d.memory) (λ memory unit.
    unit ≡ Ok (record { march = march; memory = memory; weight = d.weight })))

-- units in their order, the first of this number
unfoldable pub GivesUnits : Option Files → ℕ → List UnitDescription → Result (List TestUnit) Refusal → Type 0
GivesUnits files number [] units = units ≡ Ok []
GivesUnits files number (d ∷ ds) units =
    Then (GivesUnit files number d) (λ first.
    Then (GivesUnits files (suc number) ds) (λ rest all.
    all ≡ Ok (first ∷ rest))) units

-- ---- their names

-- an earlier memory has this name
abbrev pub IsEarlier : List Description → ℕ → List ℕ → Type 0
IsEarlier ds unit name = (i : ℕ) × (d : Description) × (i < unit) × (slice_get ds i ≡ Some d) × (d.name ≡ name)

-- the memory of this unit has the name of an earlier one, or its module the name of the chip
abbrev pub HasTakenName : List ℕ → List Description → ℕ → Type 0
HasTakenName chip ds unit = (d : Description) × (slice_get ds unit ≡ Some d) × ((module_name d.name ≡ chip) ⊎ IsEarlier ds unit d.name)

-- no name is taken, or the first unit is named whose is
unfoldable pub HasOwnNames : List ℕ → List Description → Result (Unit {0}) Refusal → Type 0
HasOwnNames chip ds (Ok _) = (unit : ℕ) → HasTakenName chip ds unit → ⊥
HasOwnNames chip ds (Err (Refusal.Chip (ChipRefusal.SameName unit))) =
    HasTakenName chip ds unit × ((before : ℕ) → before < unit → HasTakenName chip ds before → ⊥)
HasOwnNames chip ds (Err other) = ⊥

-- ---- what is left

-- the text of this module, read with operators that bind by precedence, is it and no other
abbrev pub ReadsFreely : ModuleTree → Type 0
ReadsFreely mo = FreelySpells (printed mo) mo × ((other : ModuleTree) → FreelySpells (printed mo) other → other ≡ mo)

-- how many units there are, in how many groups they are tested, and the first cycle in which every test is over
abbrev pub chip_line : ℕ → ℕ → ℕ → List ℕ
chip_line units groups cycle = codes "chip units " ++ decimal units ++ codes " groups " ++ decimal groups
    ++ codes " done " ++ decimal cycle ++ codes "\n"

-- The file that the second word names has a text that spells one chip and no other. It has this name and the ports of these memories, and
-- tests them within the budget, in the groups of the first fit, of which the line tells. Its modules show on `wdata` what each read expects
-- (and so does the chip), and behind the reset numbers where their registers are open at first. The text of each, read by precedence, is it alone.
pub record IsChipTested (name : List ℕ) (us : List TestUnit) (budget : ℕ) (done : Done) : Type 0 where
  pub text : List ℕ
  pub file : ChipFile text name us budget
  pub shown : AllShow file.chip.units us
  pub freely : AllByRecursion ReadsFreely file.chip.units
  pub done_is : done ≡ (record {
    found = false;
    outputs = (record { position = 2; bytes = text }) ∷ [];
    line = chip_line (length us) (suc (last_group file.groups)) (end_of file.groups (lengths us));
  })

unfoldable pub LeavesChip : List ℕ → List TestUnit → ℕ → Result Done Refusal → Type 0
LeavesChip name us budget = OrNoMemory (IsChipTested name us budget)

-- the check of the names, and the test
abbrev pub TestsNamed : ChipDescription → List TestUnit → Result Done Refusal → Type 0
TestsNamed chip us = Then (HasOwnNames chip.name (memories us)) (λ _. LeavesChip chip.name us chip.budget)

-- the reading of a chip's units, and their test
abbrev pub TestsUnits : Option Files → ChipDescription → Result Done Refusal → Type 0
TestsUnits files chip = Then (GivesUnits files 0 chip.units) (TestsNamed chip)

-- the checks of `chip` in their order
abbrev pub DecidesChip : Option Files → Words → Result Done Refusal → Type 0
DecidesChip files words = Then (InputChip files words 1) (TestsUnits files)

-- ---- the row

abbrev pub chip_form : Form
chip_form = record { name = codes "chip"; count = 3; first = 1; last = 3 }

abbrev pub chip_row : Row
chip_row = record (without_boxes chip_form DecidesChip) { settled = λ outputs. [] }
