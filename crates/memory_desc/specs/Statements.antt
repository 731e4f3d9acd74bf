-- Trusted. What the lines of a description say, and which lines may stand.
use Rattle.std.specs.Prelude.{ℕ, ◌==◌, Bool, true, false, if◌then◌else◌, Option, Some, None}
use Rattle.bist_text.specs.KeyedTexts.{Statement as TextStatement}
pub use Rattle.bist_text.specs.KeyedTexts.{stated}
use Rattle.memory_desc.specs.declared.content.Key.{Key}
use Rattle.memory_desc.specs.declared.content.Key.TheVariants.{Memory}
use Rattle.memory_desc.specs.declared.content.Version.{Version}
use Rattle.memory_desc.specs.declared.content.Version.TheVariants.{One, Two}
use Rattle.memory_desc.specs.LineText.{Content, version, kind_of, in_table}

-- a content line
abbrev pub Statement : Type 0
Statement = TextStatement Content

-- the version of a number
abbrev pub version_of : ℕ → Option Version
version_of n = if n == 1 then Some One else if n == 2 then Some Two else None

-- the version that a content gives, where it is one
abbrev pub version_in : Content → Option Version
version_in (version n) = version_of n
version_in c = None

-- the kinds of content lines that may stand: a `memory` line alone before a version is known, and then those of its table
abbrev pub may_stand : Option Version → Key → Bool
may_stand None Memory = true
may_stand None key = false
may_stand (Some v) key = in_table v key

abbrev pub stands : Option Version → Content → Bool
stands given c = may_stand given (kind_of c)
