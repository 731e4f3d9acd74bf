-- Public. Expressions flat: operands with operators between, and the tree that comes of taking one after another.
use Rattle.std.specs.Prelude.{ℕ, ◌+◌, true, false, List, [], ◌∷◌, Option, Some, None, nat_le, if◌then◌else◌}
use Rattle.bist_bits.specs.Vector.{Vector}
use Rattle.verilog_tree.specs.declared.tokens.Mark.TheVariants.{Open, Close, OpenBracket, CloseBracket, OpenBrace, CloseBrace, Comma, Colon, Question}
use Rattle.verilog_tree.specs.declared.tree.BinOp.{BinOp}
use Rattle.verilog_tree.specs.declared.tree.UnOp.{UnOp}
use Rattle.bist_text.specs.Machine.{Holds}
use Rattle.verilog_tree.specs.Grammar.{Style, Parenthesised, ByPrecedence}
use Rattle.verilog_tree.specs.Pieces.{Limit, sign, name, number, literal, inside, unary_mark, binary_mark, few}
use Rattle.verilog_tree.specs.Plain as P
use Rattle.verilog_tree.specs.Tokens.{Token}
use Rattle.verilog_tree.specs.Free.{height, signed}
pub use Rattle.verilog_text.specs.declared.count.Count.{Count}
pub use Rattle.verilog_text.specs.declared.count.Count.TheVariants.{Together, Apart}

mutual
  -- an operand, and what is behind it
  pub data Flat : Type 0 where
    FlatOf : Operand → Tail → Flat

  -- the end, a further operand, or a choice
  pub data Tail : Type 0 where
    End : Tail
    Link : BinOp → Operand → Tail → Tail
    Ask : Flat → Flat → Tail

  -- [ unary ] prim
  pub data Operand : Type 0 where
    OperandOf : Option UnOp → Prim → Operand

  pub data Prim : Type 0 where
    Name : List ℕ → Prim
    Select : List ℕ → ℕ → Prim
    Range : List ℕ → ℕ → ℕ → Prim
    Constant : Vector → Prim
    Braces : Flat → Flats → Prim
    Parens : Flat → Prim

  pub data Flats : Type 0 where
    NoFlat : Flats
    AndFlat : Flat → Flats → Flats

-- where an expression begins that stands in no other
abbrev pub none_yet : Style → Count
none_yet Parenthesised = Apart false
none_yet ByPrecedence = Together 0

-- with one operator more, if it may be
abbrev pub one_more : Limit → Count → Option Count
one_more l (Together n) = if few l (n + 1) then Some (Together (n + 1)) else None
one_more l (Apart true) = Some (Apart false)
one_more l (Apart false) = None

-- inside of a parenthesis, and inside of braces
abbrev pub in_parens : Count → Count
in_parens (Together n) = Together n
in_parens (Apart may) = Apart true

abbrev pub in_braces : Count → Count
in_braces (Together n) = Together n
in_braces (Apart may) = Apart false

-- behind either, with what was counted before it and inside
abbrev pub behind : Count → Count → Count
behind (Together n) m = m
behind (Apart may) m = Apart may

-- an operator, where one more may be
abbrev pub counted : Limit → Count → (Count → List Token → Type 0) → List Token → Type 0
counted l n K ts = Holds (one_more l n) (λ m. K m ts)

-- The tokens of each form, where so many operators are counted before it; K takes how many are before what follows.
abbrev mutual
  pub flat : Limit → ℕ → Flat → Count → (Count → List Token → Type 0) → List Token → Type 0
  flat l d (FlatOf x t) n K = operand l d x n (λ m. tail l d t m K)

  pub tail : Limit → ℕ → Tail → Count → (Count → List Token → Type 0) → List Token → Type 0
  tail l d End n K = K n
  tail l d (Link o x t) n K = counted l n (λ m. sign (binary_mark o) (operand l d x m (λ j. tail l d t j K)))
  tail l d (Ask x y) n K = counted l n (λ m. sign Question (flat l d x m (λ j. sign Colon (flat l d y j K))))

  pub operand : Limit → ℕ → Operand → Count → (Count → List Token → Type 0) → List Token → Type 0
  operand l d (OperandOf None p) n K = prim l d p n K
  operand l d (OperandOf (Some u) p) n K = counted l n (λ m. sign (unary_mark u) (prim l d p m K))

  pub prim : Limit → ℕ → Prim → Count → (Count → List Token → Type 0) → List Token → Type 0
  prim l d (Name w) n K = name w (K n)
  prim l d (Select w i) n K = name w (sign OpenBracket (number i (sign CloseBracket (K n))))
  prim l d (Range w h i) n K = name w (sign OpenBracket (number h (sign Colon (number i (sign CloseBracket (K n))))))
  prim l d (Constant x) n K = literal x (K n)
  prim l d (Braces x xs) n K = sign OpenBrace
      (inside l d (λ e. flat l e x (in_braces n) (λ m. flats l e xs m (λ j. sign CloseBrace (K (behind n j))))))
  prim l d (Parens x) n K = sign Open (inside l d (λ e. flat l e x (in_parens n) (λ m. sign Close (K (behind n m)))))

  pub flats : Limit → ℕ → Flats → Count → (Count → List Token → Type 0) → List Token → Type 0
  flats l d NoFlat n K = K n
  flats l d (AndFlat x xs) n K = sign Comma (flat l d x n (λ m. flats l d xs m K))

-- an operator that waits for its second operand, and its first
pub record Left : Type 0 where
  pub operand : P.Expression
  pub operator : BinOp

-- operators that wait, the last first, and the operand behind them
pub record Waiting : Type 0 where
  pub lefts : List Left
  pub last : P.Expression

abbrev pub joined : Left → P.Expression → P.Expression
joined w e = P.Infixed w.operator w.operand e

-- those that bind at least as tightly as an operator of this height take what is behind them
abbrev pub settle : ℕ → List Left → P.Expression → Waiting
settle h [] e = record { lefts = []; last = e }
settle h (w ∷ ws) e = if nat_le (height w.operator) h then settle h ws (joined w e) else record { lefts = w ∷ ws; last = e }

-- all do
abbrev pub settle_all : List Left → P.Expression → P.Expression
settle_all [] e = e
settle_all (w ∷ ws) e = settle_all ws (joined w e)

-- an operator comes
abbrev pub waits : BinOp → Waiting → List Left
waits o w = (record { operand = w.last; operator = o }) ∷ w.lefts

abbrev pub linked : BinOp → List Left → P.Expression → List Left
linked o ws e = waits o (settle (height o) ws e)

abbrev mutual
  pub flat_tree : Flat → P.Expression
  flat_tree (FlatOf x t) = tail_tree [] (operand_tree x) t

  pub tail_tree : List Left → P.Expression → Tail → P.Expression
  tail_tree ws e End = settle_all ws e
  tail_tree ws e (Link o x t) = tail_tree (linked o ws e) (operand_tree x) t
  tail_tree ws e (Ask x y) = P.Conditional (settle_all ws e) (flat_tree x) (flat_tree y)

  pub operand_tree : Operand → P.Expression
  operand_tree (OperandOf u p) = signed u (prim_tree p)

  pub prim_tree : Prim → P.Expression
  prim_tree (Name n) = P.Net n
  prim_tree (Select n i) = P.BitSelect n i
  prim_tree (Range n h l) = P.PartSelect n h l
  prim_tree (Constant x) = P.Literal x
  prim_tree (Braces x xs) = P.Concatenation (P.Followed (flat_tree x) (flats_tree xs))
  prim_tree (Parens x) = flat_tree x

  pub flats_tree : Flats → P.Expressions
  flats_tree NoFlat = P.NoMore
  flats_tree (AndFlat x xs) = P.Followed (flat_tree x) (flats_tree xs)
