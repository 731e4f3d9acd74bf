-- Trusted. The memory that a text describes.
use Rattle.std.specs.Prelude.{◌≡◌, ℕ, ◌-◌, ◌^◌, ◌<◌, ◌≤◌, ◌||◌, Bool, true, false, nat_lt, nat_le, List, length, None, MatchBool, Contains, find}
use Rattle.std.specs.Int.{is_power_of_two}
use Rattle.std.specs.List.{list_any}
use Rattle.std.specs.Option.{IsSome}
use Rattle.bist_bits.specs.Width.{IsWidthOf}
pub use Rattle.bist_text.specs.KeyedTexts.{is_other}
use Rattle.bist_text.specs.KeyedTexts.{Say}
use Rattle.bist_text.specs.Lines.{text_lines}
use Rattle.bist_text.specs.ReservedWords.{is_among, reserved_words}
use Rattle.scrambler.specs.Scrambling.{Scrambling, IsInvertible, identity}
use Rattle.memory_desc.specs.Descriptions.{Description, assembled}
use Rattle.memory_desc.specs.LineText.{Term, index_bit, constant, Content, name, words, bits, latency, polarity, pause, scramble, backgrounds, ContentText}
use Rattle.memory_desc.specs.Statements.{Statement, stands, version_in}
use Rattle.memory_desc.specs.Subjects.{subject, about, said}
use Rattle.memory_desc.specs.Values.{name_said, words_said, bits_said, latency_said, polarity_said, pause_said, matrix_said, AreBackgrounds}
use Rattle.memory_desc.specs.declared.content.Subject.TheVariants.{Name, Words, Bits, Row, Backgrounds}

-- the statements of a text's lines, of which the first is version 1 or 2, and each is of its version's table
abbrev pub AreStatements : List ℕ → List Statement → Type 0
AreStatements bytes ss = Say ContentText stands version_in (text_lines bytes) None ss

-- whether a statement speaks of what an earlier one speaks of
abbrev pub is_repeat : List Statement → Statement → Bool
is_repeat ss s = is_other s.line (about (subject s.content) ss)

-- whether a name, a number of words or of bits, a latency or a pause is outside its range
abbrev pub is_out_of_range : Content → Bool
is_out_of_range (name b) = nat_lt 48 (length b) || is_among b reserved_words
is_out_of_range (words n) = nat_lt n 2 || nat_lt 65536 n
is_out_of_range (bits n) = nat_lt n 1 || nat_lt 64 n
is_out_of_range (latency n) = nat_lt n 1 || nat_lt 4 n
is_out_of_range (pause n) = nat_lt n 1 || nat_lt 65535 n
is_out_of_range other = false

-- whether a row of the scrambling is given
abbrev pub is_row : Content → Bool
is_row (scramble i ts) = true
is_row other = false

abbrev pub is_scrambled : List Statement → Bool
is_scrambled ss = list_any (λ s. is_row s.content) ss

-- whether a row or an index bit is past an address of this width, or a background or a polarity past a word of this size
abbrev pub is_term_too_wide : ℕ → Term → Bool
is_term_too_wide width (index_bit n) = nat_le width n
is_term_too_wide width (constant b) = false

abbrev pub is_too_wide : ℕ → ℕ → Content → Bool
is_too_wide width size (scramble i ts) = nat_le width i || list_any (is_term_too_wide width) ts
is_too_wide width size (backgrounds ws) = list_any (nat_le (2 ^ size)) ws
is_too_wide width size (polarity w) = nat_le (2 ^ size) w
is_too_wide width size other = false

-- The scrambling of addresses of this width: the matrix of the rows, each of which is there, or the identity where no row is.
abbrev pub IsScrambling : List Statement → ℕ → Scrambling → Type 0
IsScrambling ss width s = MatchBool (is_scrambled ss)
    (((i : ℕ) → i < width → IsSome (about (Row i) ss)) × IsInvertible (matrix_said ss width) × (s ≡ matrix_said ss width))
    (s ≡ identity width)

-- a memory of this scrambling and these backgrounds
abbrev pub described : List Statement → Scrambling → List ℕ → Description
described ss s set = assembled (name_said ss) (words_said ss) (bits_said ss) (latency_said ss) (polarity_said ss) (pause_said ss) s set

-- The statements describe this memory: no two speak of the same, its name and sizes are there, and each is in its range; it has
-- rows only where the number of its words is a power of two, and 1 to 8 backgrounds, of which one is 0.
pub record AreOfMemory (ss : List Statement) (d : Description) : Type 0 where
  pub once : find (is_repeat ss) ss ≡ None
  pub has_name : IsSome (about Name ss)
  pub has_words : IsSome (about Words ss)
  pub has_bits : IsSome (about Bits ss)
  pub in_range : find (λ s. is_out_of_range s.content) ss ≡ None
  pub width : ℕ
  pub addresses : IsWidthOf (words_said ss - 1) width
  pub fit : find (λ s. is_too_wide width (bits_said ss) s.content) ss ≡ None
  pub scramblable : is_scrambled ss ≡ true → is_power_of_two (words_said ss) ≡ true
  pub scrambling : Scrambling
  pub is_scrambling : IsScrambling ss width scrambling
  pub set : List ℕ
  pub are_backgrounds : AreBackgrounds (said Backgrounds ss) (bits_said ss) set
  pub few : length set ≤ 8
  pub solid : Contains set 0
  pub described_as : d ≡ described ss scrambling set

-- the bytes describe this memory
abbrev pub SpellsMemory : List ℕ → Description → Type 0
SpellsMemory bytes d = (ss : List Statement) × AreStatements bytes ss × AreOfMemory ss d
