-- Public. What the lexer does at each byte, and what may still come where it stands.
use Rattle.std.specs.Prelude.{ℕ, ◌+◌, ◌*◌, Bool, true, false, ◌==◌, List, [], ◌∷◌, ◌++◌, Option, Some, None, if◌then◌else◌}
use Rattle.verilog_tree.specs.Tokens.{is_space, Token, Identifier, Number, Based, Unused, Sign, Start, AWord, ANumber, AMark, NoToken, start_of, is_query, Growth, Longer, Spoiled, Complete, growth}
use Rattle.bist_text.specs.Identifiers.{is_digit, in_identifier}
use Rattle.verilog_tree.specs.Words.{digit_value, radix, is_digit_of, base_of}
use Rattle.verilog_tree.specs.declared.tokens.Base.{Base}
use Rattle.verilog_tree.specs.declared.tokens.Mark.{Mark}
use Rattle.verilog_tree.specs.declared.tokens.Within.TheVariants.{Between, Slash, Line, Block, Star}
use Rattle.verilog_tree.specs.declared.tokens.Within.{Within}

-- in white space, or behind the first bytes of a token: of a word, of a number, behind the ' of a literal,
-- its base's letter, its first digits, behind a mark, and behind a whole token
pub data Lexer : Type 0 where
  InGap : Within → Lexer
  InWord : List ℕ → Lexer
  InNumber : Bool → ℕ → Lexer
  Quoted : ℕ → Lexer
  Lettered : ℕ → Base → Lexer
  InDigits : ℕ → Base → ℕ → Lexer
  Marked : Mark → Lexer
  Whole : Token → Lexer

abbrev pub literal : ℕ → ℕ → Token
literal size v = Based (record { width = size; value = v })

-- what a byte begins
abbrev pub begin_token : Start → ℕ → Option Lexer
begin_token AWord c = Some (InWord (c ∷ []))
begin_token ANumber c = Some (InNumber false (digit_value c))
begin_token (AMark m) c = Some (Marked m)
begin_token NoToken c = None

abbrev pub begin : ℕ → Option Lexer
begin c = if is_space c then Some (InGap Between) else if c == 47 then Some (InGap Slash) else begin_token (start_of c) c

abbrev pub with_token : Token → Option Lexer → Option (Lexer × Option Token)
with_token t None = None
with_token t (Some l) = Some (l, Some t)

abbrev pub silent : Option Lexer → Option (Lexer × Option Token)
silent None = None
silent (Some l) = Some (l, None)

abbrev pub lettered : ℕ → Option Base → Option (Lexer × Option Token)
lettered size None = None
lettered size (Some base) = Some (Lettered size base, None)

abbrev pub grow : Mark → ℕ → Growth → Option (Lexer × Option Token)
grow m c (Longer k) = Some (Marked k, None)
grow m c Spoiled = Some (Whole Unused, None)
grow m c Complete = with_token (Sign m) (begin c)

abbrev pub lex : Lexer → ℕ → Option (Lexer × Option Token)
lex (InGap Between) c = silent (begin c)
lex (InGap Slash) c = if c == 47 then Some (InGap Line, None) else if c == 42 then Some (InGap Block, None) else None
lex (InGap Line) c = if c == 10 then Some (InGap Between, None) else Some (InGap Line, None)
lex (InGap Block) c = if c == 42 then Some (InGap Star, None) else Some (InGap Block, None)
lex (InGap Star) c = if c == 47 then Some (InGap Between, None) else if c == 42 then Some (InGap Star, None) else Some (InGap Block, None)
lex (InWord w) c = if in_identifier c then Some (InWord (w ++ (c ∷ [])), None) else with_token (Identifier w) (begin c)
lex (InNumber long n) c = if is_digit c then Some
    (InNumber true (n * 10 + digit_value c), None) else if c == 39 then Some (Quoted n, None) else with_token
    (Number long n) (begin c)
lex (Quoted n) c = lettered n (base_of c)
lex (Lettered n base) c = if is_digit_of base c then Some (InDigits n base (digit_value c), None) else None
lex (InDigits n base v) c = if is_digit_of base c then Some
    (InDigits n base (v * radix base + digit_value c), None) else if c == 95 then Some
    (InDigits n base v, None) else if is_query base c then Some (Whole Unused, None) else with_token (literal n v)
    (begin c)
lex (Marked m) c = grow m c (growth m c)
lex (Whole t) c = with_token t (begin c)

-- the token that a text's end ends, if the text may end
abbrev pub last : Lexer → Option (Option Token)
last (InGap Between) = Some None
last (InGap Line) = Some None
last (InGap _) = None
last (InWord w) = Some (Some (Identifier w))
last (InNumber long n) = Some (Some (Number long n))
last (Quoted n) = None
last (Lettered n base) = None
last (InDigits n base v) = Some (Some (literal n v))
last (Marked m) = Some (Some (Sign m))
last (Whole t) = Some (Some t)
