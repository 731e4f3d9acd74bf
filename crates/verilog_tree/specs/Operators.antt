-- Trusted. The operators: of each its mark, how loosely it binds, what widths it takes and gives, and what it is worth.
use Rattle.std.specs.Prelude.{ℕ, ◌+◌, ◌-◌, ◌*◌, ◌/◌, ◌%◌, ◌^◌, Bool, cond, not, ◌&&◌, ◌||◌, nat_eq, nat_lt, nat_le, bit_and, bit_or, bit_xor, count_ones}
use Rattle.verilog_tree.specs.declared.tokens.Mark.{Mark}
use Rattle.verilog_tree.specs.declared.tokens.Mark.TheVariants.{LessEquals, Plus, Minus, Ampersand, Bar, Caret, Tilde, Bang, TwoEquals, BangEquals, Less, Greater, GreaterEquals, TwoAmpersands, TwoBars, TwoLess, TwoGreater}
use Rattle.verilog_tree.specs.declared.tree.UnOp.{UnOp}
use Rattle.verilog_tree.specs.declared.tree.UnOp.TheVariants.{Not, Invert, AllOnes, AnyOne, Parity}
use Rattle.verilog_tree.specs.declared.tree.BinOp.{BinOp}
use Rattle.verilog_tree.specs.declared.tree.BinOp.TheVariants.{Add, Sub, And, Or, Xor, Eq, Ne, Lt, Le, Gt, Ge, LogAnd, LogOr, Shl, Shr}

abbrev pub bit : Bool → ℕ
bit b = cond b 1 0

-- a value counts as true where it isn't 0
abbrev pub truth : ℕ → Bool
truth v = not (nat_eq v 0)

abbrev pub unary_mark : UnOp → Mark
unary_mark Not = Bang
unary_mark Invert = Tilde
unary_mark AllOnes = Ampersand
unary_mark AnyOne = Bar
unary_mark Parity = Caret

-- the width of an operator's result, by that of its operand: all but ~ have one bit
abbrev pub prefixed_width : UnOp → ℕ → ℕ
prefixed_width Invert k = k
prefixed_width other k = 1

-- an operand of k bits
abbrev pub prefixed : UnOp → ℕ → ℕ → ℕ
prefixed Not k a = bit (not (truth a))
prefixed Invert k a = 2 ^ k - 1 - a
prefixed AllOnes k a = bit (nat_eq a (2 ^ k - 1))
prefixed AnyOne k a = bit (truth a)
prefixed Parity k a = count_ones a % 2

-- what widths an operator of two operands takes, and which it gives
pub data WidthRule : Type 0 where
  -- operands of one width, and a result of that width
  Alike : WidthRule
  -- operands of one width, and one bit
  Compared : WidthRule
  -- operands of any widths, and a result of the left one's
  Moved : WidthRule
  -- operands of any widths, and one bit
  Tested : WidthRule

-- An operator of two operands: its mark; its height, of which those of height 1 bind most tightly; its widths; and its value,
-- by the bits of its left operand, that operand and the right one.
pub record Operator : Type 0 where
  pub mark : Mark
  pub height : ℕ
  pub rule : WidthRule
  pub worth : ℕ → ℕ → ℕ → ℕ

abbrev row : Mark → ℕ → WidthRule → (ℕ → ℕ → ℕ → ℕ) → Operator
row m h r f = record { mark = m; height = h; rule = r; worth = f }

abbrev pub operator : BinOp → Operator
operator Add = row Plus 1 Alike (λ k a b. (a + b) % 2 ^ k)
operator Sub = row Minus 1 Alike (λ k a b. (a + 2 ^ k - b) % 2 ^ k)
operator Shl = row TwoLess 2 Moved (λ k a b. cond (nat_lt b k) (a * 2 ^ b % 2 ^ k) 0)
operator Shr = row TwoGreater 2 Moved (λ k a b. cond (nat_lt b k) (a / 2 ^ b) 0)
operator Lt = row Less 3 Compared (λ k a b. bit (nat_lt a b))
operator Le = row LessEquals 3 Compared (λ k a b. bit (nat_le a b))
operator Gt = row Greater 3 Compared (λ k a b. bit (nat_lt b a))
operator Ge = row GreaterEquals 3 Compared (λ k a b. bit (nat_le b a))
operator Eq = row TwoEquals 4 Compared (λ k a b. bit (nat_eq a b))
operator Ne = row BangEquals 4 Compared (λ k a b. bit (not (nat_eq a b)))
operator And = row Ampersand 5 Alike (λ k a b. bit_and a b)
operator Xor = row Caret 6 Alike (λ k a b. bit_xor a b)
operator Or = row Bar 7 Alike (λ k a b. bit_or a b)
operator LogAnd = row TwoAmpersands 8 Tested (λ k a b. bit (truth a && truth b))
operator LogOr = row TwoBars 9 Tested (λ k a b. bit (truth a || truth b))

abbrev pub binary_mark : BinOp → Mark
binary_mark o = (operator o).mark

abbrev pub height : BinOp → ℕ
height o = (operator o).height

-- the width of what a rule gives, by that of the left operand
abbrev pub given_width : WidthRule → ℕ → ℕ
given_width Alike k = k
given_width Compared k = 1
given_width Moved k = k
given_width Tested k = 1

abbrev pub infixed_width : BinOp → ℕ → ℕ
infixed_width o k = given_width (operator o).rule k

-- a left operand of k bits, and a right one
abbrev pub infixed : BinOp → ℕ → ℕ → ℕ → ℕ
infixed o k a b = (operator o).worth k a b
