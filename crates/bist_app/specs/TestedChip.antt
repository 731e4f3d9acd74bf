-- Trusted. What `chip` comes to where it ends with status 0: the answer of the top call, without the order of its checks.
use Rattle.std.specs.Prelude.{◌≡◌, ◌≢◌, ◌≤◌, ℕ, suc, List, [], ◌∷◌, length, Option, Some, Ok, IfSome, codes}
use Rattle.std.specs.List.{AllByRecursion}
use Rattle.bist_host.specs.Files.{Files, HostState, Says}
use Rattle.march_syntax.specs.Answers.{SpellsMarch}
use Rattle.memory_desc.specs.Descriptions.{IsMemory}
use Rattle.memory_desc.specs.Described.{SpellsMemory}
use Rattle.chip_desc.specs.Chips.{ChipDescription, UnitDescription, IsChip}
use Rattle.chip_desc.specs.ChipTable.{Reads as ReadsChip}
use Rattle.chip_plan.specs.Groups.{last_group, end_of}
use Rattle.chip_rtl.specs.ChipTest.{TestUnit, lengths}
use Rattle.chip_rtl.specs.ChipLaws.{AllShow}
use Rattle.chip_rtl.specs.ChipFile.{ChipFile}
use Rattle.bist_endings.specs.Words.{Words, word}
use Rattle.bist_app.specs.Forms.{HasForm}
use Rattle.bist_app.specs.Chip.{ReadsFreely, chip_line, chip_form}
use Rattle.bist_app.specs.ChipBeside.{EachUnitTests}
use Rattle.bist_app.specs.Headline.{InputHas, Only}

-- the files that a unit names were read as its march and its memory, and spell no others
pub record IsUnitOf (files : Files) (d : UnitDescription) (u : TestUnit) : Type 0 where
  pub march_text : InputHas files d.march (λ bytes. Only (SpellsMarch bytes) u.march)
  pub memory_text : InputHas files d.memory (λ bytes. Only (SpellsMemory bytes) u.memory)
  pub is_memory : IsMemory u.memory
  pub weight : u.weight ≡ d.weight

-- those of each of these units, in their order
abbrev pub AreUnitsOf : Files → List UnitDescription → List TestUnit → Type 0
AreUnitsOf files [] [] = Unit {0}
AreUnitsOf files [] (u ∷ us) = ⊥
AreUnitsOf files (d ∷ ds) [] = ⊥
AreUnitsOf files (d ∷ ds) (u ∷ us) = IsUnitOf files d u × AreUnitsOf files ds us

-- CHIPFILE was read as the description of a chip, and the files that it names as the marches and memories of its units. Now the bytes of VERILOG
-- spell one chip and no other, which has the described name and tests these memories by their marches, whatever its registers hold at first
-- and whatever words return, in the groups of the first fit within the described budget. Its modules show on `wdata` what each read expects, and
-- so does the chip; and behind the reset they show numbers where their registers are open at first. The text of each module, read with operators
-- that bind by precedence, is that module and no other. Beside the memory of a unit, whatever else the chip reads, that unit's bit of `fail` ends at
-- 0 if that is sound, and at 1 beside each faulty memory of which `UnitTests` speaks: those beside which one self-test fails. How many units and
-- groups there are was said, and the first cycle in which every test is over; and all other files are as before.
pub record IsTestedChip (words : Words) (files files' : Files) (said said' : Option (List ℕ)) : Type 0 where
  pub shape : HasForm chip_form words
  pub chip : ChipDescription
  pub is_chip : IsChip chip
  pub chip_text : InputHas files (word words 1) (λ bytes. Only (λ c. ReadsChip bytes (Ok c)) chip)
  pub units : List TestUnit
  pub unit_texts : AreUnitsOf files chip.units units
  pub text : List ℕ
  pub is_written : files' (word words 2) ≡ Some text
  pub file : ChipFile text chip.name units chip.budget
  pub shown : AllShow file.chip.units units
  pub freely : AllByRecursion ReadsFreely file.chip.units
  pub beside : EachUnitTests file.chip units file.groups
  pub says : Says said said' (chip_line (length units) (suc (last_group file.groups)) (end_of file.groups (lengths units)))
  pub others : (name : List ℕ) → name ≢ word words 2 → files' name ≡ files name

-- The first word is `chip`, the files are told, and the status is 0 or 1: then it is 0, and this stands. Of files that aren't told nothing is
-- said here.
abbrev pub LeavesTestedChip : Words → HostState → HostState → ℕ → Type 0
LeavesTestedChip words old new status =
    IfSome old.files (λ files.
    word words 0 ≡ codes "chip" → status ≤ 1 → (status ≡ 0)
    × ((files' : Files) × (new.files ≡ Some files') × IsTestedChip words files files' old.said new.said))
