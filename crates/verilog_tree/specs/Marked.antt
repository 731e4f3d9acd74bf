-- Public. Which operator a mark is.
use Rattle.std.specs.Prelude.{List, [], ◌∷◌, Option, Some, None, if◌then◌else◌}
use Rattle.verilog_tree.specs.declared.tokens.Mark.{Mark}
use Rattle.verilog_tree.specs.declared.tree.UnOp.{UnOp}
use Rattle.verilog_tree.specs.declared.tree.UnOp.TheVariants.{Not, Invert, AllOnes, AnyOne, Parity}
use Rattle.verilog_tree.specs.declared.tree.BinOp.{BinOp}
use Rattle.verilog_tree.specs.declared.tree.BinOp.TheVariants.{Add, Sub, And, Or, Xor, Eq, Ne, Lt, Le, Gt, Ge, LogAnd, LogOr, Shl, Shr}
use Rattle.verilog_tree.specs.Operators.{unary_mark, binary_mark}
use Rattle.verilog_tree.specs.Pieces.{is_sign}

-- all operators
abbrev pub prefixes : List UnOp
prefixes = Not ∷ Invert ∷ AllOnes ∷ AnyOne ∷ Parity ∷ []

abbrev pub infixes : List BinOp
infixes = Add ∷ Sub ∷ And ∷ Or ∷ Xor ∷ Eq ∷ Ne ∷ Lt ∷ Le ∷ Gt ∷ Ge ∷ LogAnd ∷ LogOr ∷ Shl ∷ Shr ∷ []

-- the first of these with this mark
abbrev pub marked : {O : Type 0} → (O → Mark) → List O → Mark → Option O
marked mark [] m = None
marked mark (o ∷ os) m = if is_sign (mark o) m then Some o else marked mark os m

abbrev pub unary_of : Mark → Option UnOp
unary_of m = marked unary_mark prefixes m

abbrev pub infix_of : Mark → Option BinOp
infix_of m = marked binary_mark infixes m
