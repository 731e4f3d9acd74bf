-- Inner. What the code's tokens and the places of its lexer are, and what the lexer answers.
use Rattle.std.specs.Prelude.{true, ◌≡◌, ℕ, ◌<◌, ◌≤◌, length, Option, Some, None, Result, Ok, Err}
use Rattle.bist_bits.specs.Vector.{IsVector}
use Rattle.bist_text.specs.Machine.{Holds}
use Rattle.verilog_tree.specs.Tokens.{Token, Unused, Sign}
use Rattle.verilog_read.specs.declared.lexemes.Lexeme.{Lexeme}
use Rattle.verilog_read.specs.inner.Holding.{token_of}
use Rattle.verilog_read.specs.declared.lexer.LexFault.{LexFault}
use Rattle.verilog_read.specs.declared.lexer.LexFault.TheVariants.{Unexpected, LongName, LargeNumber, WrongLiteral}
use Rattle.verilog_read.specs.declared.lexer.LexStep.{LexStep}
use Rattle.verilog_read.specs.declared.lexer.Scanner.{Scanner}
use Rattle.verilog_read.specs.declared.lexer.Scanner.TheVariants as S
use Rattle.verilog_text.specs.Lexing.{Lexer, silent, with_token, InGap, InWord, InNumber, Quoted, Lettered, InDigits, Marked, Whole}

abbrev pub tokens_of : Option Lexeme → Option Token
tokens_of None = None
tokens_of (Some t) = Some (token_of t)

-- what is begun behind a token, or in white space
abbrev pub behind : Option Token → Option Lexer → Option (Lexer × Option Token)
behind None o = silent o
behind (Some t) o = with_token t o

abbrev pub ends_of : Option (Option Lexeme) → Option (Option Token)
ends_of None = None
ends_of (Some t) = Some (tokens_of t)

abbrev pub lexer_of : Scanner → Lexer
lexer_of (S.InGap w) = InGap w
lexer_of (S.InWord n) = InWord n.bytes
lexer_of (S.InNumber l n) = InNumber l n.value
lexer_of (S.Quoted b) = Quoted b.width
lexer_of (S.Lettered b base) = Lettered b.width base
lexer_of (S.InDigits base b) = InDigits b.width base b.value
lexer_of (S.Marked m) = Marked m
lexer_of (S.Whole t) = Whole (token_of t)

-- the size of a literal
abbrev pub IsSize : ℕ → Type 0
IsSize n = (1 ≤ n) × (n ≤ 64)

-- a token that limits say nothing of
abbrev pub IsPlain : Token → Type 0
IsPlain (Sign m) = Unit {0}
IsPlain Unused = Unit {0}
IsPlain _ = ⊥

-- what is begun keeps the limits, where a number may be at most `most`: it is no word of more than 64 bytes, no
-- larger number, and no literal with a size or a value out of range
abbrev pub Fits : ℕ → Lexer → Type 0
Fits most (InWord w) = length w ≤ 64
Fits most (InNumber long n) = n ≤ most
Fits most (Quoted n) = IsSize n
Fits most (Lettered n base) = IsSize n
Fits most (InDigits n base v) = IsVector n v
Fits most (Whole t) = IsPlain t
Fits most _ = Unit {0}

-- a word of more than 64 bytes
abbrev pub IsLong : Lexer → Type 0
IsLong (InWord w) = 64 < length w
IsLong _ = ⊥

-- a number above `most`, of more than one digit
abbrev pub IsLarge : ℕ → Lexer → Type 0
IsLarge most (InNumber true n) = most < n
IsLarge most _ = ⊥

-- a literal with a size or a value out of range
abbrev pub IsWrong : Lexer → Type 0
IsWrong (Quoted n) = IsSize n → ⊥
IsWrong (InDigits n base v) = IsVector n v → ⊥
IsWrong _ = ⊥

-- What the code answers, by what the lexer does: the same state and token, where numbers are at most `most`; a
-- refusal where there is none; or the limit that the state exceeds, which for a number is `limit`.
abbrev pub Scans : ℕ → ℕ → Option (Lexer × Option Token) → Result LexStep LexFault → Type 0
Scans most limit o (Ok r) = (o ≡ Some (lexer_of r.lexer, tokens_of r.token)) × Fits most (lexer_of r.lexer)
Scans most limit o (Err Unexpected) = o ≡ None
Scans most limit o (Err LongName) = Holds o (λ r. (r.1 ≡ None) × IsLong r.0)
Scans most limit o (Err LargeNumber) = Holds o (λ r. (r.1 ≡ None) × IsLarge limit r.0)
Scans most limit o (Err WrongLiteral) = Holds o (λ r. (r.1 ≡ None) × IsWrong r.0)
