-- Inner. What a search in the lines of a text looks for.
use Rattle.std.specs.Prelude.{◌≤◌, Bool}
use Rattle.memory_desc.specs.LineText.{Content}
use Rattle.memory_desc.specs.Subjects.{is_same, subject}
use Rattle.memory_desc.specs.Table.{is_out_of_range, is_row, is_too_wide}
use Rattle.memory_desc.specs.declared.search.Sought.{Sought}
use Rattle.memory_desc.specs.declared.search.Sought.TheVariants.{About, OutOfRange, Row, TooWide}

abbrev pub is_sought : Sought → Content → Bool
is_sought (About q) c = is_same q (subject c)
is_sought OutOfRange c = is_out_of_range c
is_sought Row c = is_row c
is_sought (TooWide width size) c = is_too_wide width size c

-- a word has 1 to 64 bits
abbrev pub IsPosed : Sought → Type 0
IsPosed (TooWide width size) = (1 ≤ size) × (size ≤ 64)
IsPosed other = Unit {0}
