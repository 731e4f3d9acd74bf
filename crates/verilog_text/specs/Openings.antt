-- Trusted. Openings and operators, and when one is too many.
use Rattle.std.specs.Prelude.{ℕ, Bool, true, false, List, [], ◌∷◌, ◌++◌, Some, None, take, drop, codes}
use Rattle.bist_text.specs.Grammar.{word}
use Rattle.verilog_tree.specs.declared.tokens.Mark.TheVariants.{Open, OpenBrace}
use Rattle.verilog_tree.specs.declared.tokens.Mark.{Mark}
use Rattle.verilog_tree.specs.Grammar.{Limit, unlimited, Style}
use Rattle.verilog_tree.specs.Plain.{ModuleTree}
use Rattle.verilog_tree.specs.Spells.{Derives}
use Rattle.verilog_tree.specs.Tokens.{Token, Identifier, Sign, Lexed, stops, mark_text, Growth, Longer, Spoiled, Complete, growth}
use Rattle.bist_text.specs.Identifiers.{in_identifier}

pub data Opening : Type 0 where
  Parenthesis : Opening
  Brace : Opening
  BlockWord : Opening
  IfWord : Opening
  CaseWord : Opening
  Operator : Mark → Opening

abbrev pub opening_text : Opening → List ℕ
opening_text Parenthesis = codes "("
opening_text Brace = codes "{"
opening_text BlockWord = codes "begin"
opening_text IfWord = codes "if"
opening_text CaseWord = codes "case"
opening_text (Operator m) = mark_text m

abbrev pub opening_token : Opening → Token
opening_token Parenthesis = Sign Open
opening_token Brace = Sign OpenBrace
opening_token BlockWord = Identifier (codes "begin")
opening_token IfWord = Identifier (codes "if")
opening_token CaseWord = Identifier (codes "case")
opening_token (Operator m) = Sign m

abbrev pub grows : Growth → Bool
grows (Longer k) = true
grows Spoiled = true
grows Complete = false

-- the bytes that make a longer token of it
abbrev pub opening_goes_on : Opening → ℕ → Bool
opening_goes_on Parenthesis c = false
opening_goes_on Brace c = false
opening_goes_on (Operator m) c = grows (growth m c)
opening_goes_on _ c = in_identifier c

abbrev pub so_many_openings : ℕ → Limit
so_many_openings n = record { openings = Some n; operators = None }

-- The limit that it breaks: where 64 openings are open at once with this one, a text must have room for so many, and
-- behind if and case a parenthesis must come, which is one more. An expression has at most 256 operators.
abbrev pub limit_of : Opening → Limit
limit_of IfWord = so_many_openings 65
limit_of CaseWord = so_many_openings 65
limit_of (Operator m) = record { openings = None; operators = Some 256 }
limit_of _ = so_many_openings 64

-- these tokens begin those of a text, within a limit
abbrev pub BeginsText : Style → Limit → List Token → Type 0
BeginsText y limit ts = (more : List Token) × (mo : ModuleTree) × Derives y limit (ts ++ more) mo

-- The opening, or the operator, that begins at byte k is one too many: it is a token of its own; the tokens up to and
-- with it begin those of a text, and of none within that limit.
pub record IsDeep (y : Style) (b : List ℕ) (k : ℕ) : Type 0 where
  pub tokens : List Token
  pub opening : Opening
  pub front : Lexed tokens (take k b)
  pub stands : word (opening_text opening) (stops (opening_goes_on opening) (λ r. Unit {0})) (drop k b)
  pub whole : Lexed (tokens ++ (opening_token opening ∷ [])) (take k b ++ opening_text opening)
  pub begins : BeginsText y unlimited (tokens ++ (opening_token opening ∷ []))
  pub deep : BeginsText y (limit_of opening) (tokens ++ (opening_token opening ∷ [])) → ⊥
