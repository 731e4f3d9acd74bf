-- Trusted. The refusals of a description whose lines are all of the table, in their order; else it describes a memory.
use Rattle.std.specs.Prelude.{◌≡◌, ℕ, zero, suc, ◌-◌, ◌==◌, ◌&&◌, ◌⊎◌, true, not, nat_lt, if◌then◌else◌, List, [], ◌∷◌, length, Option, Some, None, Result, Ok, Err, find}
use Rattle.std.specs.Int.{is_power_of_two}
use Rattle.std.specs.List.{list_any}
use Rattle.bist_bits.specs.Width.{IsWidthOf}
pub use Rattle.bist_text.specs.KeyedTexts.{at_line}
use Rattle.bist_text.specs.KeyedTexts.{AreRefused, first_refusal, or_else, unless_there}
use Rattle.bist_text.specs.declared.keyed_lines.TextFault.{TextFault}
use Rattle.bist_text.specs.declared.keyed_lines.TextFault.TheVariants as T
use Rattle.bist_text.specs.Lines.{text_lines}
use Rattle.scrambler.specs.Scrambling.{IsInvertible, IsLeastDependence}
use Rattle.memory_desc.specs.Descriptions.{Description}
pub use Rattle.memory_desc.specs.Described.{is_other, is_repeat, is_out_of_range, is_row, is_scrambled, is_term_too_wide, is_too_wide, described, AreStatements, AreOfMemory, SpellsMemory}
use Rattle.memory_desc.specs.LineText.{Content, backgrounds, ContentText}
use Rattle.memory_desc.specs.Statements.{Statement, stands, version_in}
use Rattle.memory_desc.specs.Subjects.{about, said}
use Rattle.memory_desc.specs.Values.{words_said, bits_said, matrix_said}
use Rattle.memory_desc.specs.declared.content.Subject.{Subject}
use Rattle.memory_desc.specs.declared.content.Subject.TheVariants.{Name, Words, Bits, Row, Backgrounds}
use Rattle.memory_desc.specs.declared.fault.Field.{Field}
use Rattle.memory_desc.specs.declared.fault.Field.TheVariants.{Name as NameField, Words as WordsField, Bits as BitsField, Row as RowField}
use Rattle.memory_desc.specs.declared.fault.MemoryFault.{MemoryFault}
use Rattle.memory_desc.specs.declared.fault.MemoryFault.TheVariants.{Unexpected, Truncated, OtherVersion, Repeated, Missing, OutOfRange, Singular, ScrambleNeedsPowerOfTwo, NoSolidBackground, TooManyBackgrounds}

-- ---- D3: an earlier line speaks of the same

abbrev pub repeated : List Statement → Option MemoryFault
repeated ss = at_line (λ n. Repeated n) (find (is_repeat ss) ss)

-- ---- D4: a field is missing

abbrev pub missing : Subject → Field → List Statement → Option MemoryFault
missing q field ss = unless_there (Missing field) (about q ss)

-- ---- D5: a name, a number of words or of bits, a latency or a pause outside its range

abbrev pub out_of_range : List Statement → Option MemoryFault
out_of_range ss = at_line (λ n. OutOfRange n) (find (λ s. is_out_of_range s.content) ss)

-- ---- D7: rows, and a number of words that is no power of two

abbrev pub unscramblable : List Statement → Option MemoryFault
unscramblable ss = if is_scrambled ss && not (is_power_of_two (words_said ss)) then Some ScrambleNeedsPowerOfTwo else None

-- ---- D5: a row or an index bit past the address, or a background or a polarity past the word

abbrev pub too_wide : List Statement → ℕ → ℕ → Option MemoryFault
too_wide ss width size = at_line (λ n. OutOfRange n) (find (λ s. is_too_wide width size s.content) ss)

-- ---- D4: the least row of the address that is missing, where there are rows

abbrev pub missing_row : List Statement → ℕ → Option MemoryFault
missing_row ss zero = None
missing_row ss (suc n) = or_else (missing_row ss n) (unless_there (Missing (RowField n)) (about (Row n) ss))

abbrev pub unrowed : List Statement → ℕ → Option MemoryFault
unrowed ss width = if is_scrambled ss then missing_row ss width else None

-- ---- D9 and D8: more than 8 backgrounds, or none that is 0

abbrev pub too_many : List ℕ → Option MemoryFault
too_many set = if nat_lt 8 (length set) then Some TooManyBackgrounds else None

abbrev pub without_solid : List ℕ → Option MemoryFault
without_solid set = if list_any (λ w. w == 0) set then None else Some NoSolidBackground

-- of words that are listed; the logarithmic set is never refused
abbrev pub unserved : Option Content → Option MemoryFault
unserved (Some (backgrounds ws)) = first_refusal (too_many ws ∷ without_solid ws ∷ [])
unserved other = None

-- ---- the whole

-- the first refusal before the sizes are known
abbrev pub unsized : List Statement → Option MemoryFault
unsized ss = first_refusal (repeated ss ∷ missing Name NameField ss ∷ missing Words WordsField ss ∷ missing Bits BitsField ss ∷ out_of_range ss ∷ [])

-- the first behind them, up to the rows of addresses of this width
abbrev pub unfit : List Statement → ℕ → Option MemoryFault
unfit ss width = first_refusal (unscramblable ss ∷ too_wide ss width (bits_said ss) ∷ unrowed ss width ∷ [])

-- behind them D6, that these rows depend on one another, and else D9 and D8
abbrev pub IsLast : List Statement → ℕ → MemoryFault → Type 0
IsLast ss width fault =
    ((rows : ℕ) × (is_scrambled ss ≡ true) × IsLeastDependence (matrix_said ss width) rows × (fault ≡ Singular rows))
    ⊎ ((is_scrambled ss ≡ true → IsInvertible (matrix_said ss width)) × (unserved (said Backgrounds ss) ≡ Some fault))

-- the first refusal of the statements
abbrev pub AreRefusedBy : List Statement → MemoryFault → Type 0
AreRefusedBy ss fault =
    (unsized ss ≡ Some fault)
    ⊎ ((unsized ss ≡ None) × (width : ℕ) × IsWidthOf (words_said ss - 1) width
    × ((unfit ss width ≡ Some fault) ⊎ ((unfit ss width ≡ None) × IsLast ss width fault)))

-- the memory that the statements describe, or the first refusal
abbrev pub Describes : List Statement → Result Description MemoryFault → Type 0
Describes ss (Ok d) = AreOfMemory ss d
Describes ss (Err fault) = AreRefusedBy ss fault

-- the refusal for its lines
abbrev pub of_lines : TextFault → MemoryFault
of_lines (T.Unexpected line byte) = Unexpected line byte
of_lines T.Truncated = Truncated
of_lines T.OtherVersion = OtherVersion

-- What a text is read as: a line is refused, or its statements describe a memory or are refused.
abbrev pub Reads : List ℕ → Result Description MemoryFault → Type 0
Reads bytes (Ok d) = SpellsMemory bytes d
Reads bytes (Err fault) =
    ((f : TextFault) × AreRefused ContentText stands version_in (text_lines bytes) None f × (fault ≡ of_lines f))
    ⊎ ((ss : List Statement) × AreStatements bytes ss × AreRefusedBy ss fault)
