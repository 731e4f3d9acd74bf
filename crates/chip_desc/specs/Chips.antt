-- Trusted. A chip, as contracts see it: several memories, each with the file of its march, that are tested within a budget.
use Rattle.std.specs.Prelude.{ℕ, ◌≡◌, ◌≤◌, ◌&&◌, ◌==◌, nat_le, not, Bool, true, List, length, map, All}
use Rattle.std.specs.List.{list_all}
use Rattle.memory_desc.specs.Names.{IsName}
use Rattle.chip_desc.specs.declared.chip.ChipUnit.{ChipUnit}

-- a memory of a chip: what its test weighs, and the names of the files that have its march and its description
pub record UnitDescription : Type 0 where
  pub weight : ℕ
  pub march : List ℕ
  pub memory : List ℕ

pub record ChipDescription : Type 0 where
  pub name : List ℕ
  pub budget : ℕ
  pub units : List UnitDescription

abbrev pub unit_of : ChipUnit → UnitDescription
unit_of u = record { weight = u.weight; march = u.march.bytes; memory = u.memory.bytes }

-- a chip of these parts
abbrev pub described_as : List ℕ → ℕ → List ChipUnit → ChipDescription
described_as name budget units = record { name = name; budget = budget; units = map unit_of units }

-- a byte of the name of a file: printable, and neither a blank nor #
abbrev pub is_file_byte : ℕ → Bool
is_file_byte c = nat_le 33 c && nat_le c 126 && not (c == 35)

abbrev pub is_file : List ℕ → Bool
is_file b = list_all is_file_byte b && nat_le 1 (length b)

-- a name of a file of at most 255 bytes
pub record IsFile (b : List ℕ) : Type 0 where
  pub bytes : is_file b ≡ true
  pub short : length b ≤ 255

-- a unit whose weight is within the budget
pub record IsUnit (budget : ℕ) (u : UnitDescription) : Type 0 where
  pub some : 1 ≤ u.weight
  pub within : u.weight ≤ budget
  pub march : IsFile u.march
  pub memory : IsFile u.memory

-- a chip within the limits: 1 to 16 units under a budget of at most 1,000,000
pub record IsChip (d : ChipDescription) : Type 0 where
  pub name : IsName d.name
  pub some : 1 ≤ d.budget
  pub small : d.budget ≤ 1000000
  pub any : 1 ≤ length d.units
  pub few : length d.units ≤ 16
  pub units : All (λ u. IsUnit d.budget u) d.units
