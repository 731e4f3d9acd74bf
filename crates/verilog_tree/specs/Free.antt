-- Trusted. Expressions with operators that bind by precedence: derivations, the tokens that each derives, and its tree.
use Rattle.std.specs.Prelude.{◌≡◌, ℕ, zero, suc, ◌+◌, List, Option, Some, None}
use Rattle.bist_bits.specs.Vector.{Vector}
use Rattle.verilog_tree.specs.declared.tokens.Mark.TheVariants.{Open, Close, OpenBracket, CloseBracket, OpenBrace, CloseBrace, Comma, Colon, Question}
use Rattle.verilog_tree.specs.declared.tree.BinOp.{BinOp}
use Rattle.verilog_tree.specs.declared.tree.UnOp.{UnOp}
use Rattle.verilog_tree.specs.Pieces.{Limit, sign, name, number, literal, inside, unary_mark, binary_mark}
pub use Rattle.verilog_tree.specs.Operators.{height}
use Rattle.verilog_tree.specs.Plain as P
use Rattle.verilog_tree.specs.Tokens.{Token}

mutual
  -- a derivation of expr
  pub data Expr : Type 0 where
    Simple : Rule → Expr
    Choice : Rule → Expr → Expr → Expr

  -- a derivation of one of the rules lor to sum, or of un
  pub data Rule : Type 0 where
    Chain : Rule → Links → Rule
    Operand : Option UnOp → Prim → Rule

  -- { operator operand }
  pub data Links : Type 0 where
    NoLink : Links
    AndLink : BinOp → Rule → Links → Links

  -- a derivation of prim
  pub data Prim : Type 0 where
    Name : List ℕ → Prim
    Select : List ℕ → ℕ → Prim
    Range : List ℕ → ℕ → ℕ → Prim
    Constant : Vector → Prim
    Braces : Expr → Exprs → Prim
    Parens : Expr → Prim

  -- { "," expr }
  pub data Exprs : Type 0 where
    NoExpr : Exprs
    AndExpr : Expr → Exprs → Exprs

-- The rules from un upward: rule 0 is un, and rule k + 1 joins operands of rule k by the operators of height k + 1.
--   lor   = land { "||" land }                     9
--   land  = bor { "&&" bor }                       8
--   bor   = bxor { "|" bxor }                      7
--   bxor  = band { "^" band }                      6
--   band  = eq { "&" eq }                          5
--   eq    = rel { ("==" | "!=") rel }              4
--   rel   = shift { ("<" | "<=" | ">" | ">=") shift }  3
--   shift = sum { ("<<" | ">>") sum }              2
--   sum   = un { ("+" | "-") un }                  1
--   un    = [ unary ] prim                         0
abbrev pub lor : ℕ
lor = 9

-- [ unary ]
abbrev pub unary_if : Option UnOp → (List Token → Type 0) → List Token → Type 0
unary_if None K = K
unary_if (Some u) K = sign (unary_mark u) K

-- expr = lor [ "?" expr ":" expr ]
-- prim = name | name "[" number "]" | name "[" number ":" number "]" | literal | "{" expr { "," expr } "}"
--      | "(" expr ")"
-- where d openings are open round it
abbrev mutual
  pub expr : Limit → ℕ → Expr → (List Token → Type 0) → List Token → Type 0
  expr l d (Simple x) K = rule l d lor x K
  expr l d (Choice c x y) K = rule l d lor c (sign Question (expr l d x (sign Colon (expr l d y K))))

  pub rule : Limit → ℕ → ℕ → Rule → (List Token → Type 0) → List Token → Type 0
  rule l d (suc k) (Chain x xs) K = rule l d k x (links l d k xs K)
  rule l d zero (Operand u p) K = unary_if u (prim l d p K)
  rule l d zero (Chain x xs) K = λ ts. ⊥
  rule l d (suc k) (Operand u p) K = λ ts. ⊥

  pub links : Limit → ℕ → ℕ → Links → (List Token → Type 0) → List Token → Type 0
  links l d k NoLink K = K
  links l d k (AndLink o x xs) K = λ ts. (height o ≡ suc k) × sign (binary_mark o) (rule l d k x (links l d k xs K)) ts

  pub prim : Limit → ℕ → Prim → (List Token → Type 0) → List Token → Type 0
  prim l d (Name n) K = name n K
  prim l d (Select n i) K = name n (sign OpenBracket (number i (sign CloseBracket K)))
  prim l d (Range n h i) K = name n (sign OpenBracket (number h (sign Colon (number i (sign CloseBracket K)))))
  prim l d (Constant x) K = literal x K
  prim l d (Braces x xs) K = sign OpenBrace (inside l d (λ e. expr l e x (exprs l e xs (sign CloseBrace K))))
  prim l d (Parens x) K = sign Open (inside l d (λ e. expr l e x (sign Close K)))

  pub exprs : Limit → ℕ → Exprs → (List Token → Type 0) → List Token → Type 0
  exprs l d NoExpr K = K
  exprs l d (AndExpr x xs) K = sign Comma (expr l d x (exprs l d xs K))

abbrev pub signed : Option UnOp → P.Expression → P.Expression
signed None e = e
signed (Some u) e = P.Prefixed u e

-- The tree of a derivation. Operators of one rule group to the left; parentheses leave no trace.
abbrev mutual
  pub expr_tree : Expr → P.Expression
  expr_tree (Simple x) = rule_tree x
  expr_tree (Choice c x y) = P.Conditional (rule_tree c) (expr_tree x) (expr_tree y)

  pub rule_tree : Rule → P.Expression
  rule_tree (Chain x xs) = links_tree (rule_tree x) xs
  rule_tree (Operand u p) = signed u (prim_tree p)

  pub links_tree : P.Expression → Links → P.Expression
  links_tree e NoLink = e
  links_tree e (AndLink o x xs) = links_tree (P.Infixed o e (rule_tree x)) xs

  pub prim_tree : Prim → P.Expression
  prim_tree (Name n) = P.Net n
  prim_tree (Select n i) = P.BitSelect n i
  prim_tree (Range n h l) = P.PartSelect n h l
  prim_tree (Constant x) = P.Literal x
  prim_tree (Braces x xs) = P.Concatenation (P.Followed (expr_tree x) (exprs_tree xs))
  prim_tree (Parens x) = expr_tree x

  pub exprs_tree : Exprs → P.Expressions
  exprs_tree NoExpr = P.NoMore
  exprs_tree (AndExpr x xs) = P.Followed (expr_tree x) (exprs_tree xs)

-- how many operators an expression has; ? and : are one
abbrev mutual
  pub operators : P.Expression → ℕ
  operators (P.Net n) = 0
  operators (P.BitSelect n i) = 0
  operators (P.PartSelect n h l) = 0
  operators (P.Literal x) = 0
  operators (P.Concatenation xs) = all_operators xs
  operators (P.Prefixed u x) = operators x + 1
  operators (P.Infixed o x y) = operators x + operators y + 1
  operators (P.Conditional c x y) = operators c + operators x + operators y + 1

  pub all_operators : P.Expressions → ℕ
  all_operators P.NoMore = 0
  all_operators (P.Followed x xs) = operators x + all_operators xs
