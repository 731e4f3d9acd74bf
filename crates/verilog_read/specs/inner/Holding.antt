-- Inner. For proofs and private contracts alone: what the code holds of an expression by precedence.
use Rattle.std.specs.Prelude.{Bool, false, List, [], ◌∷◌, map}
use Rattle.verilog_tree.specs.Plain as P
use Rattle.verilog_tree.specs.Tokens.{Token, Identifier, Number, Based, Unused, Sign}
use Rattle.verilog_text.specs.Places as Q
use Rattle.verilog_tree.specs.Grammar.{is_sign}
use Rattle.verilog_tree.specs.declared.tokens.Mark.{Mark}
use Rattle.verilog_text.specs.Places.{Alone, WantOperand, WantPrim, Named, Bracket, HighRead, ColonRead, LowRead, Have, Linked, Only, InRound, InList, IfTrue, IfFalse}
use Rattle.verilog_read.specs.inner.Waiting.{lefts_of}
use Rattle.verilog_read.specs.declared.lexemes.Lexeme.{Lexeme}
use Rattle.verilog_read.specs.declared.lexemes.Lexeme.TheVariants as X
use Rattle.verilog_read.specs.declared.precedence.Chain.{Chain}
use Rattle.verilog_read.specs.declared.precedence.Nest.{Nest}
use Rattle.verilog_read.specs.declared.precedence.Nest.TheVariants as N
use Rattle.verilog_read.specs.declared.precedence.ExprSpot.{ExprSpot}
use Rattle.verilog_read.specs.declared.precedence.ExprSpot.TheVariants as S

abbrev pub token_of : Lexeme → Token
token_of (X.Word n) = Identifier n.bytes
token_of (X.Number l n) = Number l n.value
token_of (X.Constant b) = Based b
token_of X.Unused = Unused
token_of (X.Sign m) = Sign m

abbrev pub nest : Nest → Q.Nest → Q.Nest
nest (N.Round r c) o = InRound r c.count (lefts_of c.lefts.items) c.mark o
nest (N.List r xs c) o = InList r (P.expressions (map P.plain xs.items)) c.count (lefts_of c.lefts.items) c.mark o
nest (N.IfTrue c) o = IfTrue (P.plain c) o
nest (N.IfFalse c x) o = IfFalse (P.plain c) (P.plain x) o

abbrev pub nests_on : List Nest → Q.Nest → Q.Nest
nests_on [] o = o
nests_on (n ∷ ns) o = nests_on ns (nest n o)

abbrev pub nests_of : List Nest → Alone → Q.Nest
nests_of ns b = nests_on ns (Only b)

-- the place
abbrev pub standing : ExprSpot → Chain → Q.Nest → Q.ExprPlace
standing (S.Operand r) c o = WantOperand r c.count (lefts_of c.lefts.items) o
standing (S.Prim r) c o = WantPrim r c.count (lefts_of c.lefts.items) c.mark o
standing (S.Named r n) c o = Named r n.bytes (Linked c.count (lefts_of c.lefts.items) c.mark o)
standing (S.Bracket r n) c o = Bracket r n.bytes (Linked c.count (lefts_of c.lefts.items) c.mark o)
standing (S.HighRead r n h) c o = HighRead r n.bytes h (Linked c.count (lefts_of c.lefts.items) c.mark o)
standing (S.ColonRead r n h) c o = ColonRead r n.bytes h (Linked c.count (lefts_of c.lefts.items) c.mark o)
standing (S.LowRead r n h l) c o = LowRead r n.bytes h l (Linked c.count (lefts_of c.lefts.items) c.mark o)
standing (S.Have r e) c o = Have r (P.plain e) (Linked c.count (lefts_of c.lefts.items) c.mark o)

-- a token is this mark
abbrev pub is_expected : Mark → Token → Bool
is_expected m (Sign n) = is_sign m n
is_expected m _ = false
