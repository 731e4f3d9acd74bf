-- Inner. Which marks may come behind a whole expression by precedence, and behind an operand.
use Rattle.std.specs.Prelude.{Bool, ◌||◌, true, false, Option, Some, None, if◌then◌else◌}
use Rattle.verilog_tree.specs.declared.tokens.Mark.{Mark}
use Rattle.verilog_tree.specs.declared.tokens.Mark.TheVariants.{Open, OpenBrace, Close, CloseBrace, Comma, Semicolon, Colon, Question}
use Rattle.verilog_tree.specs.declared.tree.BinOp.{BinOp}
use Rattle.verilog_tree.specs.Grammar.{is_sign}
use Rattle.verilog_read.specs.declared.places.Purpose.TheVariants as B
use Rattle.verilog_read.specs.declared.places.Purpose.{Purpose}
use Rattle.verilog_read.specs.declared.precedence.Nest as N
use Rattle.verilog_read.specs.declared.precedence.Nest.TheVariants as M
use Rattle.verilog_read.specs.declared.precedence.ExprSpot.{ExprSpot}
use Rattle.verilog_read.specs.declared.precedence.ExprSpot.TheVariants as T
use Rattle.verilog_text.specs.Places.{Alone, AsDriver, AsCondition, AsSubject, AsValue, Nest, Only, InRound, InList, IfTrue, IfFalse}
use Rattle.verilog_tree.specs.declared.tree.UnOp.{UnOp}
use Rattle.verilog_text.specs.declared.count.Count.{Count}
use Rattle.verilog_text.specs.declared.count.Count.TheVariants.{Together, Apart}
use Rattle.verilog_tree.specs.Marked.{infix_of, unary_of}

abbrev pub ends : Alone → Mark → Bool
ends (AsDriver h n) m = is_sign Semicolon m
ends (AsCondition r q a) m = is_sign Close m
ends (AsSubject r q a) m = is_sign Close m
ends (AsValue n a) m = is_sign Semicolon m

abbrev pub splits : Mark → Bool
splits Comma = true
splits CloseBrace = true
splits _ = false

-- the mark that ends an expression that stands in no other
abbrev pub end_of : Purpose → Mark
end_of (B.Drive n) = Semicolon
end_of (B.Test r q) = Close
end_of (B.Pick r q) = Close
end_of (B.Set n) = Semicolon

-- a choice whose last part it is ends with it
abbrev pub closes : Nest → Mark → Bool
closes (Only b) m = ends b m
closes (InRound r n ws u o) m = is_sign Close m
closes (InList r old n ws u o) m = splits m
closes (IfTrue c o) m = is_sign Colon m
closes (IfFalse c x o) m = closes o m

abbrev pub is_operator : Option BinOp → Bool
is_operator None = false
is_operator (Some b) = true

-- an operator, or the ? of a choice
abbrev pub links : Mark → Bool
links m = is_sign Question m || is_operator (infix_of m)

-- whether one operator more may be, if there were no limit
abbrev pub may : Count → Bool
may (Together n) = true
may (Apart b) = b

abbrev pub goes_on : Count → Nest → Mark → Bool
goes_on n o m = if links m then may n else closes o m

abbrev pub is_prefix : Option UnOp → Bool
is_prefix None = false
is_prefix (Some u) = true

-- a mark with which an operand may begin, and one that may stand before it or begins it
abbrev pub opens : Mark → Bool
opens Open = true
opens OpenBrace = true
opens _ = false

abbrev pub starts : Count → Mark → Bool
starts n m = if is_prefix (unary_of m) then may n else opens m

-- an operand may begin
abbrev pub begins : ExprSpot → Bool
begins (T.Operand r) = true
begins (T.Prim r) = true
begins _ = false

-- the innermost is a choice of which the last part is read
abbrev pub ends_choice : N.Nest → Bool
ends_choice (M.IfFalse c x) = true
ends_choice _ = false
