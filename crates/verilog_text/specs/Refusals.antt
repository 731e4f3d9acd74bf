-- Trusted. What stands at a byte of a text that is refused, and which refusal is the first.
use Rattle.verilog_tree.specs.Grammar.{Style, Parenthesised}
use Rattle.std.specs.Prelude.{◌≡◌, ℕ, ◌+◌, ◌<◌, List, take, length, ◌⊎◌}
use Rattle.bist_text.specs.Grammar.{Continues, IsUnexpected, IsTruncated}
use Rattle.verilog_tree.specs.Spells.{Limits, no_limits, short_names, small_numbers, Text}
use Rattle.verilog_text.specs.Openings.{IsDeep}
use Rattle.verilog_tree.specs.declared.fault.ReadFault.{ReadFault}
use Rattle.verilog_tree.specs.declared.fault.ReadFault.TheVariants as R

-- With byte k a text can't be continued within these limits, and can without limits.
abbrev pub Passes : Style → Limits → List ℕ → ℕ → Type 0
Passes y l b k = IsUnexpected (Text y l) b k × Continues (Text y no_limits) (take (k + 1) b)

-- What a fault says of a text: at its byte no text of the grammar goes on so; or a text that keeps a limit doesn't,
-- and one that needn't keep it does; or the text is none and goes on to one; or its opening is one too many.
abbrev pub SaysIn : Style → List ℕ → ReadFault → Type 0
SaysIn y b (R.Unexpected k) = IsUnexpected (Text y no_limits) b k
SaysIn y b (R.LongName k) = Passes y short_names b k
SaysIn y b (R.OutOfRange k) = Passes y small_numbers b k
SaysIn y b R.Truncated = IsTruncated (Text y no_limits) b
SaysIn y b (R.TooDeep k) = IsDeep y b k
SaysIn y b _ = Unit {0}

-- a refusal stands in a text; that there is no memory stands in none
abbrev pub StandsIn : Style → List ℕ → ReadFault → Type 0
StandsIn y b R.NoMemory = ⊥
StandsIn y b f = SaysIn y b f

-- its byte; of a text that ends too early, the one behind the last
abbrev pub byte_of : List ℕ → ReadFault → ℕ
byte_of b (R.Unexpected k) = k
byte_of b (R.LongName k) = k
byte_of b (R.OutOfRange k) = k
byte_of b (R.TooDeep k) = k
byte_of b R.Truncated = length b
byte_of b R.NoMemory = length b

-- it stands, and each other one that stands has a later byte
abbrev pub IsFirstIn : Style → List ℕ → ReadFault → Type 0
IsFirstIn y b f = StandsIn y b f × ((g : ReadFault) → StandsIn y b g → (g ≡ f) ⊎ (byte_of b f < byte_of b g))

-- the same of texts in full parentheses
abbrev pub Says : List ℕ → ReadFault → Type 0
Says b f = SaysIn Parenthesised b f

abbrev pub IsFirst : List ℕ → ReadFault → Type 0
IsFirst b f = IsFirstIn Parenthesised b f
