-- Inner. What a search for a repeated line has met.
use Rattle.std.specs.Prelude.{ℕ, ◌≤◌, ◌⊎◌, List, length, Contains}
use Rattle.memory_desc.specs.declared.content.Subject.{Subject}
use Rattle.memory_desc.specs.declared.content.Subject.TheVariants.{Row}

-- whether a number may have been met: it is kept, or there is no room for more
abbrev pub MayHave : List ℕ → ℕ → Type 0
MayHave numbers n = (65536 ≤ length numbers) ⊎ Contains numbers n

-- whether a subject may have been met: of the subjects only rows are kept
abbrev pub MayBeMet : List ℕ → Subject → Type 0
MayBeMet numbers (Row i) = MayHave numbers i
MayBeMet numbers q = Unit {0}
