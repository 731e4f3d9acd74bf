-- What the parts of the lexer answer, for the whole.
use Rattle.std.proofs.Common.{true, false, ◌≡◌, ℕ, ◌≤◌, Option, Some, None, Result, Ok, Err, ap, arith}
use Rattle.std.proofs.lemmas.Nat.{pow_pos}
use Rattle.bist_bits.specs.Vector.{IsVector}
use Rattle.bist_text.specs.Machine.{Holds}
use Rattle.verilog_tree.specs.Tokens.{Token}
use Rattle.verilog_read.specs.declared.lexer.LexFault.{LexFault}
use Rattle.verilog_read.specs.declared.lexer.LexFault.TheVariants.{Unexpected, LongName, LargeNumber, WrongLiteral}
use Rattle.verilog_read.specs.declared.lexer.LexStep.{LexStep}
use Rattle.verilog_read.specs.inner.Lexemes.{lexer_of, Fits, IsLarge, IsSize, Scans, behind}
use Rattle.verilog_text.specs.Lexing.{Lexer, silent, with_token, InWord, InNumber}

fits_more : (most : ℕ) (l : Lexer) → 63 ≤ most → Fits 63 l → Fits most l
fits_more most (InNumber long n) h f = omega (arith, f, h)
fits_more most (InWord w) h f = f
fits_more most l h f = f

large_more : (most : ℕ) (l : Lexer) → most ≤ 64 → IsLarge 64 l → IsLarge most l
large_more most (InNumber true n) h f = omega (arith, f, h)
large_more most (InNumber false n) h f = f
large_more most l h f = f

holds_large : (most : ℕ) (o : Option (Lexer × Option Token)) → most ≤ 64 → Holds o (λ r. (r.1 ≡ None) × IsLarge 64 r.0) → Holds o (λ r. (r.1 ≡ None) × IsLarge most r.0)
holds_large most None h f = f
holds_large most (Some r) h f = (f.0, large_more most r.0 h f.1)

-- a part that reads no number, where numbers may be at most `most`
pub any_numbers : (most : ℕ) (o : Option (Lexer × Option Token)) (r : Result LexStep LexFault) → 63 ≤ most → most ≤ 64 → Scans 63 64 o r → Scans most most o r
any_numbers most o (Ok r) l h s = (s.0, fits_more most (lexer_of r.lexer) l s.1)
any_numbers most o (Err Unexpected) l h s = s
any_numbers most o (Err LongName) l h s = s
any_numbers most o (Err LargeNumber) l h s = holds_large most o h s
any_numbers most o (Err WrongLiteral) l h s = s

-- what a byte begins
pub begins_behind : (t : Option Token) (o : Option Lexer) (l : Lexer) → o ≡ Some l → behind t o ≡ Some (l, t)
begins_behind None o l e = ap silent e
begins_behind (Some t) o l e = ap (with_token t) e

pub none_behind : (t : Option Token) (o : Option Lexer) → o ≡ None → behind t o ≡ None
none_behind None o e = ap silent e
none_behind (Some t) o e = ap (with_token t) e

-- a size is that of a vector
pub size_vector : (n : ℕ) → IsSize n → IsVector n 0
size_vector n h = record { positive = h.0; narrow = h.1; fits = pow_pos n }
