-- The tokens of the flat form, whatever the number of its operators.
use Rattle.std.proofs.Common.{ℕ, List}
use Rattle.bist_text.proofs.Piece.{Piece, joined}
use Rattle.verilog_tree.specs.Tokens.{Token}
use Rattle.verilog_tree.specs.declared.tokens.Mark.TheVariants.{Open, Close, OpenBracket, CloseBracket, OpenBrace, CloseBrace, Comma, Colon, Question}
use Rattle.verilog_tree.specs.Pieces.{Limit, sign, name, number, literal, inside, binary_mark}
use Rattle.verilog_tree.specs.Free.{unary_if}
use Rattle.verilog_text.specs.Flat as F
use Rattle.verilog_text.proofs.TokenPieces.{nothing, s, n, i, l, o, u}

abbrev mutual
  pub flat : Limit → ℕ → F.Flat → (List Token → Type 0) → List Token → Type 0
  flat l d (F.FlatOf x t) K = operand l d x (tail l d t K)

  pub tail : Limit → ℕ → F.Tail → (List Token → Type 0) → List Token → Type 0
  tail l d F.End K = K
  tail l d (F.Link o x t) K = sign (binary_mark o) (operand l d x (tail l d t K))
  tail l d (F.Ask x y) K = sign Question (flat l d x (sign Colon (flat l d y K)))

  pub operand : Limit → ℕ → F.Operand → (List Token → Type 0) → List Token → Type 0
  operand l d (F.OperandOf u p) K = unary_if u (prim l d p K)

  pub prim : Limit → ℕ → F.Prim → (List Token → Type 0) → List Token → Type 0
  prim l d (F.Name n) K = name n K
  prim l d (F.Select n i) K = name n (sign OpenBracket (number i (sign CloseBracket K)))
  prim l d (F.Range n h i) K = name n (sign OpenBracket (number h (sign Colon (number i (sign CloseBracket K)))))
  prim l d (F.Constant x) K = literal x K
  prim l d (F.Braces x xs) K = sign OpenBrace (inside l d (λ e. flat l e x (flats l e xs (sign CloseBrace K))))
  prim l d (F.Parens x) K = sign Open (inside l d (λ e. flat l e x (sign Close K)))

  pub flats : Limit → ℕ → F.Flats → (List Token → Type 0) → List Token → Type 0
  flats l d F.NoFlat K = K
  flats l d (F.AndFlat x xs) K = sign Comma (flat l d x (flats l d xs K))

module _ (limit : Limit) where
  mutual
    pub whole : (d : ℕ) (x : F.Flat) → Piece (flat limit d x)
    whole d (F.FlatOf x t) = joined _ _ (first d x) (further d t)

    pub further : (d : ℕ) (t : F.Tail) → Piece (tail limit d t)
    further d F.End = nothing
    further d (F.Link b x t) = joined _ _ (s (binary_mark b)) (joined _ _ (first d x) (further d t))
    further d (F.Ask x y) = joined _ _ (s Question) (joined _ _ (whole d x) (joined _ _ (s Colon) (whole d y)))

    pub first : (d : ℕ) (x : F.Operand) → Piece (operand limit d x)
    first d (F.OperandOf v p) = joined _ _ (u v) (alone d p)

    pub alone : (d : ℕ) (p : F.Prim) → Piece (prim limit d p)
    alone d (F.Name w) = n w
    alone d (F.Select w j) = joined _ _ (n w) (joined _ _ (s OpenBracket) (joined _ _ (i j) (s CloseBracket)))
    alone d (F.Range w h j) = joined _ _ (n w) (joined _ _ (s OpenBracket) (joined _ _ (i h) (joined _ _ (s Colon) (joined _ _ (i j) (s CloseBracket)))))
    alone d (F.Constant y) = l y
    alone d (F.Braces x xs) = joined _ _ (s OpenBrace) (o limit d _ (λ f. joined _ _ (whole f x) (joined _ _ (others f xs) (s CloseBrace))))
    alone d (F.Parens x) = joined _ _ (s Open) (o limit d _ (λ f. joined _ _ (whole f x) (s Close)))

    pub others : (d : ℕ) (xs : F.Flats) → Piece (flats limit d xs)
    others d F.NoFlat = nothing
    others d (F.AndFlat x xs) = joined _ _ (s Comma) (joined _ _ (whole d x) (others d xs))
