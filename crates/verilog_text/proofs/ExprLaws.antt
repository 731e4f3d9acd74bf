-- What may follow in an expression, by the next token.
use Rattle.std.proofs.Common.{ℕ, List, ◌∷◌, Option, Some, None, refl, ◌↔◌, subst, sym}
use Rattle.bist_text.proofs.Pieces.{also, same, never}
use Rattle.verilog_tree.specs.Grammar.{Limit, sign, number}
use Rattle.verilog_tree.specs.Plain as P
use Rattle.verilog_tree.specs.Free.{signed}
use Rattle.verilog_tree.specs.Tokens.{Token, Number, Sign}
use Rattle.verilog_tree.specs.declared.tokens.Mark.TheVariants.{OpenBracket, CloseBracket, Colon}
use Rattle.verilog_text.specs.Flat.{settle_all}
use Rattle.verilog_text.specs.inner.Following.{AfterExpr, after_expr, place, in_bracket, rest_expr}
use Rattle.verilog_text.specs.Places.{Outside, Linked, ExprPlace, WantOperand, WantPrim, Named, Bracket, HighRead, ColonRead, LowRead, Have, AtExpr}
use Rattle.verilog_text.specs.inner.Places.{Place, Whole, One, Two}
use Rattle.verilog_text.proofs.MarkLaws.{Law, expects_goes}
use Rattle.verilog_text.proofs.OperandLaws.{no_close, linked_goes, operand_goes, prim_goes}

module _ (limit : Limit) where
  pub have_goes : (p : ℕ) (e : P.Expression) (o : Outside) (t : Token) (ts : List Token) (v : P.ModuleTree) → Law limit (Have p e o) t ts v
  have_goes p e (Linked c ws u o) t ts v = linked_goes limit p c e ws u o t ts v

  -- a whole name, where no bracket follows
  whole_name : (p : ℕ) (n : List ℕ) (o : Outside) (t : Token) (ts : List Token) (v : P.ModuleTree) → ((K : List Token → Type 0) → sign OpenBracket K (t ∷ ts) → ⊥) → rest_expr limit (Named p n o) (t ∷ ts) v ↔ rest_expr limit (Have p (P.Net n) o) (t ∷ ts) v
  whole_name p n o t ts v f = (λ h. to h.0 h.1 h.2, λ h. (Whole, h.0, h.1))
    where
      to : (i : Place) (x : AfterExpr o) → place n i (λ e. after_expr limit o x p e v) (t ∷ ts) → rest_expr limit (Have p (P.Net n) o) (t ∷ ts) v
      to Whole x h = (x, h)
      to (One i) x h = absurd (f (number i (sign CloseBracket (after_expr limit o x p (P.BitSelect n i) v))) h)
      to (Two i j) x h = absurd (f (number i (sign Colon (number j (sign CloseBracket (after_expr limit o x p (P.PartSelect n i j) v))))) h)

  -- an expression's end is no bracket
  no_bracket : (p : ℕ) (e : P.Expression) (o : Outside) (ts : List Token) (v : P.ModuleTree) → rest_expr limit (Have p e o) (Sign OpenBracket ∷ ts) v → ⊥
  no_bracket p e (Linked c ws u o) ts v h = no_close limit p c (settle_all ws (signed u e)) o OpenBracket ts v refl ((linked_goes limit p c e ws u o (Sign OpenBracket) ts v).0 h)

  named_goes : (p : ℕ) (n : List ℕ) (o : Outside) (t : Token) (ts : List Token) (v : P.ModuleTree) → Law limit (Named p n o) t ts v
  named_goes p n o (Sign OpenBracket) ts v = (λ h. to h.0 h.1 h.2, λ h. from h.0 h.1 h.2 h.3)
    where
      to : (i : Place) (x : AfterExpr o) → place n i (λ e. after_expr limit o x p e v) (Sign OpenBracket ∷ ts) → rest_expr limit (Bracket p n o) ts v
      to Whole x h = absurd (no_bracket p (P.Net n) o ts v (x, h))
      to (One i) x h = (i, None, x, h)
      to (Two i j) x h = (i, Some j, x, h)

      from : (i : ℕ) (l : Option ℕ) (x : AfterExpr o) → number i (in_bracket n l i (λ e. after_expr limit o x p e v)) ts → rest_expr limit (Named p n o) (Sign OpenBracket ∷ ts) v
      from i None x h = (One i, x, h)
      from i (Some j) x h = (Two i j, x, h)
  named_goes p n o (Sign m) ts v = also (whole_name p n o (Sign m) ts v (λ K z. z)) (have_goes p (P.Net n) o (Sign m) ts v)
  named_goes p n o t ts v = also (whole_name p n o t ts v (λ K z. z)) (have_goes p (P.Net n) o t ts v)

  high_goes : (p : ℕ) (n : List ℕ) (h : ℕ) (o : Outside) (t : Token) (ts : List Token) (v : P.ModuleTree) → Law limit (HighRead p n h o) t ts v
  high_goes p n h o (Sign CloseBracket) ts v = (λ k. to k.0 k.1 k.2, λ k. (None, k.0, k.1))
    where
      to : (l : Option ℕ) (x : AfterExpr o) → in_bracket n l h (λ e. after_expr limit o x p e v) (Sign CloseBracket ∷ ts) → rest_expr limit (Have p (P.BitSelect n h) o) ts v
      to None x k = (x, k)
      to (Some j) x k = absurd k
  high_goes p n h o (Sign Colon) ts v = (λ k. to k.0 k.1 k.2, λ k. (Some k.0, k.1, k.2))
    where
      to : (l : Option ℕ) (x : AfterExpr o) → in_bracket n l h (λ e. after_expr limit o x p e v) (Sign Colon ∷ ts) → rest_expr limit (ColonRead p n h o) ts v
      to None x k = absurd k
      to (Some j) x k = (j, x, k)
  high_goes p n h o (Sign m) ts v = never (λ k. no k.0 k.1 k.2) (λ z. z)
    where
      no : (l : Option ℕ) (x : AfterExpr o) → in_bracket n l h (λ e. after_expr limit o x p e v) (Sign m ∷ ts) → ⊥
      no None x k = k
      no (Some j) x k = k
  high_goes p n h o t ts v = never (λ k. no k.0 k.1 k.2) (λ z. z)
    where
      no : (l : Option ℕ) (x : AfterExpr o) → in_bracket n l h (λ e. after_expr limit o x p e v) (t ∷ ts) → ⊥
      no None x k = k
      no (Some j) x k = k

  bracket_goes : (p : ℕ) (n : List ℕ) (o : Outside) (t : Token) (ts : List Token) (v : P.ModuleTree) → Law limit (Bracket p n o) t ts v
  bracket_goes p n o (Number k i) ts v = (λ h. (h.1, h.2, subst (λ j. in_bracket n h.1 j (λ e. after_expr limit o h.2 p e v) ts) (sym h.3.0) h.3.1), λ h. (i, h.0, h.1, (refl, h.2)))
  bracket_goes p n o t ts v = never (λ h. h.3) (λ z. z)

  colon_goes : (p : ℕ) (n : List ℕ) (i : ℕ) (o : Outside) (t : Token) (ts : List Token) (v : P.ModuleTree) → Law limit (ColonRead p n i o) t ts v
  colon_goes p n i o (Number k j) ts v = (λ h. (h.1, subst (λ l. sign CloseBracket (after_expr limit o h.1 p (P.PartSelect n i l) v) ts) (sym h.2.0) h.2.1), λ h. (j, h.0, (refl, h.1)))
  colon_goes p n i o t ts v = never (λ h. h.2) (λ z. z)

  pub expr_laws : (p : ExprPlace) (t : Token) (ts : List Token) (v : P.ModuleTree) → Law limit p t ts v
  expr_laws (Named p n o) t ts v = named_goes p n o t ts v
  expr_laws (Bracket p n o) t ts v = bracket_goes p n o t ts v
  expr_laws (HighRead p n h o) t ts v = high_goes p n h o t ts v
  expr_laws (ColonRead p n h o) t ts v = colon_goes p n h o t ts v
  expr_laws (LowRead p n h l o) t ts v = expects_goes limit CloseBracket (AtExpr (Have p (P.PartSelect n h l) o)) (λ x. after_expr limit o x p (P.PartSelect n h l) v) t ts v same
  expr_laws (Have p e o) t ts v = have_goes p e o t ts v
  expr_laws (WantOperand p c ws o) t ts v = operand_goes limit p c ws o t ts v
  expr_laws (WantPrim p c ws u o) t ts v = prim_goes limit p c ws u o t ts v
