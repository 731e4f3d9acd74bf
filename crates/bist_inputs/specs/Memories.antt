-- Trusted. What the memory description of a command gives.
use Rattle.std.specs.Prelude.{ℕ, List, Option, Result, Ok, Err}
use Rattle.bist_host.specs.Files.{Files}
use Rattle.memory_desc.specs.Descriptions.{Description, IsMemory}
use Rattle.memory_desc.specs.Table.{Reads}
use Rattle.bist_endings.specs.declared.ending.Refusal.{Refusal}
use Rattle.bist_endings.specs.Then.{Then}
use Rattle.bist_inputs.specs.Inputs.{GivesBytes}
use Rattle.bist_endings.specs.Words.{Words, word}

-- the memory that a text describes, or the first step of the table that refuses it
unfoldable pub GivesMemory : List ℕ → Result Description Refusal → Type 0
GivesMemory bytes (Ok d) = Reads bytes (Ok d) × IsMemory d
GivesMemory bytes (Err (Refusal.Memory fault)) = Reads bytes (Err fault)
GivesMemory bytes (Err other) = ⊥

-- the memory of the file of this name
unfoldable pub FileMemory : Option Files → List ℕ → ℕ → Result Description Refusal → Type 0
FileMemory files name position = Then (GivesBytes files name position) GivesMemory

-- the memory of the file that a word names
abbrev pub InputMemory : Option Files → Words → ℕ → Result Description Refusal → Type 0
InputMemory files words position = FileMemory files (word words position) position
