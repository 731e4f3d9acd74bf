-- Trusted. What the chip file of a command gives, and the files of the chip's units.
use Rattle.std.specs.Prelude.{◌≡◌, ℕ, List, Option, Result, Ok, Err}
use Rattle.bist_host.specs.Files.{Files}
use Rattle.march_core.specs.March.{MarchElement}
use Rattle.memory_desc.specs.Descriptions.{Description}
use Rattle.chip_desc.specs.Chips.{ChipDescription, IsChip}
use Rattle.chip_desc.specs.ChipTable.{Reads}
use Rattle.bist_endings.specs.declared.ending.ChipRefusal.{ChipRefusal}
use Rattle.bist_endings.specs.declared.ending.InputRefusal.{InputRefusal}
use Rattle.bist_endings.specs.declared.ending.Refusal.{Refusal}
use Rattle.bist_endings.specs.Then.{Then}
use Rattle.bist_endings.specs.Words.{Words, word}
use Rattle.bist_inputs.specs.Inputs.{GivesBytes, FileMarch}
use Rattle.bist_inputs.specs.Memories.{FileMemory}

-- the chip that a text describes, or the first step of the table that refuses it
unfoldable pub GivesChip : List ℕ → Result ChipDescription Refusal → Type 0
GivesChip bytes (Ok d) = Reads bytes (Ok d) × IsChip d
GivesChip bytes (Err (Refusal.Chip (ChipRefusal.File fault))) = Reads bytes (Err fault)
GivesChip bytes (Err other) = ⊥

-- the chip of the file that a word names
unfoldable pub InputChip : Option Files → Words → ℕ → Result ChipDescription Refusal → Type 0
InputChip files words position = Then (GivesBytes files (word words position) position) GivesChip

-- a refusal of an input, where the input is a unit's
abbrev pub in_unit : ℕ → Refusal → Refusal
in_unit unit (Refusal.March fault) = Refusal.Unit unit (InputRefusal.March fault)
in_unit unit (Refusal.Memory fault) = Refusal.Unit unit (InputRefusal.Memory fault)
in_unit unit (Refusal.TooLarge position) = Refusal.Unit unit (InputRefusal.TooLarge position)
in_unit unit (Refusal.ReadFailed position) = Refusal.Unit unit (InputRefusal.ReadFailed position)
in_unit unit (Refusal.Absent position) = Refusal.Unit unit (InputRefusal.Absent position)
in_unit unit other = other

abbrev pub of_unit : {A : Type 0} → ℕ → Result A Refusal → Result A Refusal
of_unit unit (Ok value) = Ok value
of_unit unit (Err refusal) = Err (in_unit unit refusal)

-- the march of the file of this name, for this unit
unfoldable pub UnitMarch : Option Files → ℕ → List ℕ → Result (List MarchElement) Refusal → Type 0
UnitMarch files unit name result = (own : Result (List MarchElement) Refusal) × FileMarch files name 1 own × (result ≡ of_unit unit own)

-- the memory of the file of this name, for this unit
unfoldable pub UnitMemory : Option Files → ℕ → List ℕ → Result Description Refusal → Type 0
UnitMemory files unit name result = (own : Result Description Refusal) × FileMemory files name 2 own × (result ≡ of_unit unit own)
