-- Inner. What parts of the reader answer, said of the statements of the text.
use Rattle.std.specs.Prelude.{◌≡◌, ◌⊎◌, ◌≤◌, ℕ, true, List, length, Contains, Option, Some, None, Result, Ok, Err}
use Rattle.scrambler.specs.Scrambling.{Scrambling, IsLeastDependence}
use Rattle.memory_desc.specs.Described.{IsScrambling}
use Rattle.memory_desc.specs.LineText.{Content}
use Rattle.memory_desc.specs.Statements.{Statement}
use Rattle.memory_desc.specs.Values.{matrix_said, AreBackgrounds}
use Rattle.memory_desc.specs.Table.{is_scrambled, unrowed, unserved}
use Rattle.memory_desc.specs.declared.fault.MemoryFault.{MemoryFault}
use Rattle.memory_desc.specs.declared.fault.MemoryFault.TheVariants.{Singular}

-- the scrambling of the rows, or the identity where there are none
abbrev pub GivesScrambling : List Statement → ℕ → Result Scrambling MemoryFault → Type 0
GivesScrambling ss width (Ok s) = (unrowed ss width ≡ None) × IsScrambling ss width s
GivesScrambling ss width (Err fault) =
    (unrowed ss width ≡ Some fault)
    ⊎ ((unrowed ss width ≡ None) × (rows : ℕ) × (is_scrambled ss ≡ true) × IsLeastDependence (matrix_said ss width) rows
    × (fault ≡ Singular rows))

-- the backgrounds where this is said of them
abbrev pub GivesBackgrounds : Option Content → ℕ → Result (List ℕ) MemoryFault → Type 0
GivesBackgrounds c size (Ok set) = AreBackgrounds c size set × (length set ≤ 8) × Contains set 0
GivesBackgrounds c size (Err fault) = unserved c ≡ Some fault
