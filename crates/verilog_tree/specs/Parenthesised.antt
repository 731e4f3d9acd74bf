-- Trusted. Expressions in full parentheses: derivations, the tokens that each derives, and its tree.
use Rattle.std.specs.Prelude.{ℕ, List}
use Rattle.bist_bits.specs.Vector.{Vector}
use Rattle.verilog_tree.specs.declared.tokens.Mark.TheVariants.{Open, Close, OpenBracket, CloseBracket, OpenBrace, CloseBrace, Comma, Colon, Question}
use Rattle.verilog_tree.specs.declared.tree.UnOp.{UnOp}
use Rattle.verilog_tree.specs.declared.tree.BinOp.{BinOp}
use Rattle.verilog_tree.specs.Plain as P
use Rattle.verilog_tree.specs.Tokens.{Token}
use Rattle.verilog_tree.specs.Pieces.{sign, name, number, literal, Limit, inside, unary_mark, binary_mark}

mutual
  -- a derivation of expr
  pub data Expr : Type 0 where
    Name : List ℕ → Expr
    Select : List ℕ → ℕ → Expr
    Range : List ℕ → ℕ → ℕ → Expr
    Constant : Vector → Expr
    Braces : Expr → Exprs → Expr
    Parens : Expr → Expr
    Unary : UnOp → Expr → Expr
    Binary : BinOp → Expr → Expr → Expr
    Choice : Expr → Expr → Expr → Expr

  -- { "," expr }
  pub data Exprs : Type 0 where
    NoExpr : Exprs
    AndExpr : Expr → Exprs → Exprs

-- expr = name | name "[" number "]" | name "[" number ":" number "]" | literal | "{" expr { "," expr } "}"
--      | "(" expr ")" | "(" unary expr ")" | "(" expr binary expr ")" | "(" expr "?" expr ":" expr ")"
-- where d openings are open round it
abbrev mutual
  pub expr : Limit → ℕ → Expr → (List Token → Type 0) → List Token → Type 0
  expr l d (Name n) K = name n K
  expr l d (Select n i) K = name n (sign OpenBracket (number i (sign CloseBracket K)))
  expr l d (Range n h i) K = name n (sign OpenBracket (number h (sign Colon (number i (sign CloseBracket K)))))
  expr l d (Constant x) K = literal x K
  expr l d (Braces x xs) K = sign OpenBrace (inside l d (λ e. expr l e x (exprs l e xs (sign CloseBrace K))))
  expr l d (Parens x) K = sign Open (inside l d (λ e. expr l e x (sign Close K)))
  expr l d (Unary o x) K = sign Open (inside l d (λ e. sign (unary_mark o) (expr l e x (sign Close K))))
  expr l d (Binary o x y) K = sign Open (inside l d (λ e. expr l e x (sign (binary_mark o) (expr l e y (sign Close K)))))
  expr l d (Choice c x y) K = sign Open (inside l d (λ e. expr l e c (sign Question (expr l e x (sign Colon (expr l e y (sign Close K)))))))

  pub exprs : Limit → ℕ → Exprs → (List Token → Type 0) → List Token → Type 0
  exprs l d NoExpr K = K
  exprs l d (AndExpr x xs) K = sign Comma (expr l d x (exprs l d xs K))

-- The tree of a derivation. Parentheses round an expression leave no trace.
abbrev mutual
  pub expr_tree : Expr → P.Expression
  expr_tree (Name n) = P.Net n
  expr_tree (Select n i) = P.BitSelect n i
  expr_tree (Range n h l) = P.PartSelect n h l
  expr_tree (Constant x) = P.Literal x
  expr_tree (Braces x xs) = P.Concatenation (P.Followed (expr_tree x) (exprs_tree xs))
  expr_tree (Parens x) = expr_tree x
  expr_tree (Unary o x) = P.Prefixed o (expr_tree x)
  expr_tree (Binary o x y) = P.Infixed o (expr_tree x) (expr_tree y)
  expr_tree (Choice c x y) = P.Conditional (expr_tree c) (expr_tree x) (expr_tree y)

  pub exprs_tree : Exprs → P.Expressions
  exprs_tree NoExpr = P.NoMore
  exprs_tree (AndExpr x xs) = P.Followed (expr_tree x) (exprs_tree xs)
