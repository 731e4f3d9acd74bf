-- Inner. For proofs and private contracts alone: the table of a chip's units, which grows unit by unit.
use Rattle.std.specs.Prelude.{◌≡◌, ◌≤◌, ◌<◌, ◌++◌, ◌∷◌, [], ℕ, All, List, length, map, Option, Result, Ok, Err}
use Rattle.bist_host.specs.Files.{Files}
use Rattle.chip_desc.specs.Chips.{UnitDescription}
use Rattle.chip_rtl.specs.ChipTest.{TestUnit, lengths}
use Rattle.chip_rtl.specs.ChipLaws.{memories, weights}
use Rattle.bist_endings.specs.declared.ending.Refusal.{Refusal}
use Rattle.bist_app.specs.declared.units.UnitTable.{UnitTable}
use Rattle.bist_app.specs.Chip.{GivesUnit, GivesUnits}

pub record IsTableOf (t : UnitTable) (us : List TestUnit) : Type 0 where
  pub marches : t.marches.items ≡ map (λ u. u.march) us
  pub memories : t.memories.items ≡ memories us
  pub weights : t.weights.items ≡ weights us
  pub lengths : t.lengths.items ≡ lengths us
  pub short : All (λ l. (1 ≤ l) × (l ≤ 200000000)) t.lengths.items

-- there are so many units in the table
abbrev pub HasUnits : UnitTable → ℕ → Type 0
HasUnits t n = (us : List TestUnit) × IsTableOf t us × (length us ≡ n)

-- there is room for one more
abbrev pub HasRoom : UnitTable → Type 0
HasRoom t = (length t.weights.items < 16) × (length t.lengths.items < 16)

-- behind all units that are there, these stand now
abbrev pub Grows : UnitTable → UnitTable → List TestUnit → Type 0
Grows old new more = (us : List TestUnit) → IsTableOf old us → IsTableOf new (us ++ more)

abbrev pub AppendsUnit : Option Files → ℕ → UnitDescription → UnitTable → UnitTable → Result (Unit {0}) Refusal → Type 0
AppendsUnit files number d old new (Ok _) = (u : TestUnit) × GivesUnit files number d (Ok u) × Grows old new (u ∷ [])
AppendsUnit files number d old new (Err refusal) = GivesUnit files number d (Err refusal)

abbrev pub AppendsUnits : Option Files → ℕ → List UnitDescription → UnitTable → UnitTable → Result (Unit {0}) Refusal → Type 0
AppendsUnits files number ds old new (Ok _) = (us : List TestUnit) × GivesUnits files number ds (Ok us) × Grows old new us
AppendsUnits files number ds old new (Err refusal) = GivesUnits files number ds (Err refusal)
