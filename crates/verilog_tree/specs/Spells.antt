-- Trusted. The module that bytes spell.
use Rattle.std.specs.Prelude.{◌≡◌, ℕ, Bool, true, false, not, ◌&&◌, ◌||◌, nat_le, List, [], ◌∷◌, Some, length}
use Rattle.verilog_tree.specs.Formed.{is_literal, is_place}
use Rattle.verilog_tree.specs.Plain.{ModuleTree}
use Rattle.verilog_tree.specs.Tokens.{Token, Identifier, Number, Based, Unused, Sign, Lexed}
use Rattle.verilog_tree.specs.Grammar.{Limit, unlimited, Style, Parenthesised, ByPrecedence, File, file, file_tree}

-- Which limits a text keeps: whether an identifier has at most 64 bytes; whether a number, which always stands
-- in brackets, is at most 63, and a literal has a size from 1 to 64 and a value that it holds; and how many
-- openings are open at once, and how many operators an expression has.
pub record Limits : Type 0 where
  pub names : Bool
  pub numbers : Bool
  pub counts : Limit

-- whether a token keeps them
abbrev pub keeps : Limits → Token → Bool
keeps l (Identifier w) = not l.names || nat_le (length w) 64
keeps l (Number long n) = not l.numbers || is_place n
keeps l (Based x) = not l.numbers || is_literal x
keeps l Unused = true
keeps l (Sign m) = true

abbrev pub all_keep : Limits → List Token → Bool
all_keep l [] = true
all_keep l (t ∷ ts) = keeps l t && all_keep l ts

-- The tokens are those of a derivation of a file, whose tree is the module.
abbrev pub Derives : Style → Limit → List Token → ModuleTree → Type 0
Derives y l ts mo = (f : File) × file y l f ts × (file_tree f ≡ mo)

-- The bytes are tokens, which keep the limits and derive the module.
abbrev pub Text : Style → Limits → List ℕ → ModuleTree → Type 0
Text y l b mo = (ts : List Token) × Lexed ts b × (all_keep l ts ≡ true) × Derives y l.counts ts mo

-- 64 openings may be open at once, and an expression may have 256 operators
abbrev pub bounded : Limit
bounded = record { openings = Some 64; operators = Some 256 }

abbrev pub all_limits : Limits
all_limits = record { names = true; numbers = true; counts = bounded }

abbrev pub no_limits : Limits
no_limits = record { names = false; numbers = false; counts = unlimited }

-- each limit of tokens alone
abbrev pub short_names : Limits
short_names = record { names = true; numbers = false; counts = unlimited }

abbrev pub small_numbers : Limits
small_numbers = record { names = false; numbers = true; counts = unlimited }

-- The bytes spell the module: they are a text of it within all limits.
abbrev pub Spells : List ℕ → ModuleTree → Type 0
Spells b mo = Text Parenthesised all_limits b mo

-- The same of a text whose operators bind by precedence.
abbrev pub FreelySpells : List ℕ → ModuleTree → Type 0
FreelySpells b mo = Text ByPrecedence all_limits b mo
