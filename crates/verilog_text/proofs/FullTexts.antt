-- What full parentheses derive is the flat form that has at most one operator in each parenthesis, and none elsewhere.
use Rattle.std.proofs.Common.{◌≡◌, ℕ, Bool, true, false, List, Option, Some, None, refl, sym, ap, ap₂, ◌∙◌, ◌↔◌, subst}
use Rattle.bist_text.proofs.Piece.{joined}
use Rattle.bist_text.proofs.Pieces.{same, holds_iff}
use Rattle.bist_text.specs.Machine.{Holds}
use Rattle.verilog_tree.specs.declared.tokens.Mark.TheVariants.{Open, Close, OpenBracket, CloseBracket, OpenBrace, CloseBrace, Comma, Colon, Question}
use Rattle.verilog_tree.specs.Parenthesised as Y
use Rattle.verilog_tree.specs.Pieces.{Limit, deeper, sign, unary_mark, binary_mark}
use Rattle.verilog_tree.specs.Plain as P
use Rattle.verilog_tree.specs.Tokens.{Token}
use Rattle.verilog_text.specs.Flat as F
use Rattle.verilog_text.specs.Flat.{Count, Apart}
use Rattle.verilog_text.proofs.TokenPieces.{s, n, i, l, on, shown}

-- a fact of what stands inside of an opening
within : (w : Option ℕ) (P : ℕ → Type 0) (X : Type 0) → ((c : ℕ) → P c → X) → Holds w P → X
within None P X f h = absurd h
within (Some c) P X f h = f c h

-- an operand alone
abbrev pub single : F.Prim → F.Operand
single p = F.OperandOf None p

abbrev pub only : F.Prim → F.Flat
only p = F.FlatOf (single p) F.End

abbrev mutual
  pub as_prim : Y.Expr → F.Prim
  as_prim (Y.Name w) = F.Name w
  as_prim (Y.Select w j) = F.Select w j
  as_prim (Y.Range w h j) = F.Range w h j
  as_prim (Y.Constant x) = F.Constant x
  as_prim (Y.Braces x xs) = F.Braces (only (as_prim x)) (as_more xs)
  as_prim (Y.Parens x) = F.Parens (only (as_prim x))
  as_prim (Y.Unary u x) = F.Parens (F.FlatOf (F.OperandOf (Some u) (as_prim x)) F.End)
  as_prim (Y.Binary o x y) = F.Parens (F.FlatOf (single (as_prim x)) (F.Link o (single (as_prim y)) F.End))
  as_prim (Y.Choice c x y) = F.Parens (F.FlatOf (single (as_prim c)) (F.Ask (only (as_prim x)) (only (as_prim y))))

  pub as_more : Y.Exprs → F.Flats
  as_more Y.NoExpr = F.NoFlat
  as_more (Y.AndExpr x xs) = F.AndFlat (only (as_prim x)) (as_more xs)

-- ---- the same tree

mutual
  pub same_prim : (x : Y.Expr) → F.prim_tree (as_prim x) ≡ Y.expr_tree x
  same_prim (Y.Name w) = refl
  same_prim (Y.Select w j) = refl
  same_prim (Y.Range w h j) = refl
  same_prim (Y.Constant x) = refl
  same_prim (Y.Braces x xs) = ap₂ (λ a b. P.Concatenation (P.Followed a b)) (same_prim x) (same_more xs)
  same_prim (Y.Parens x) = same_prim x
  same_prim (Y.Unary u x) = ap (P.Prefixed u) (same_prim x)
  same_prim (Y.Binary o x y) = ap₂ (P.Infixed o) (same_prim x) (same_prim y)
  same_prim (Y.Choice c x y) = ap (λ e. P.Conditional e (F.prim_tree (as_prim x)) (F.prim_tree (as_prim y))) (same_prim c) ∙ ap₂ (P.Conditional (Y.expr_tree c)) (same_prim x) (same_prim y)

  pub same_more : (xs : Y.Exprs) → F.flats_tree (as_more xs) ≡ Y.exprs_tree xs
  same_more Y.NoExpr = refl
  same_more (Y.AndExpr x xs) = ap₂ P.Followed (same_prim x) (same_more xs)

module _ (limit : Limit) where
  -- ---- the same tokens

  abbrev Same : (List Token → Type 0) → (List Token → Type 0) → Type 0
  Same K L = (ts : List Token) → K ts ↔ L ts

  -- inside of a parenthesis, and of braces
  round : (d : ℕ) (A B : ℕ → List Token → Type 0) → ((e : ℕ) → Same (A e) (B e)) → Same (λ us. Holds (deeper limit d) (λ e. A e us)) (λ us. Holds (deeper limit d) (λ e. B e us))
  round d A B f us = holds_iff (deeper limit d) (λ e. A e us) (λ e. B e us) (λ e. f e us)

  mutual
    pub alike : (d : ℕ) (x : Y.Expr) (may : Bool) (K : List Token → Type 0) (L : Count → List Token → Type 0) → Same K (L (Apart may)) → Same (Y.expr limit d x K) (F.prim limit d (as_prim x) (Apart may) L)
    alike d (Y.Name w) may K L g = on (n w) K (L (Apart may)) g
    alike d (Y.Select w j) may K L g = on (joined _ _ (n w) (joined _ _ (s OpenBracket) (joined _ _ (i j) (s CloseBracket)))) K (L (Apart may)) g
    alike d (Y.Range w h j) may K L g = on (joined _ _ (n w) (joined _ _ (s OpenBracket) (joined _ _ (i h) (joined _ _ (s Colon) (joined _ _ (i j) (s CloseBracket)))))) K (L (Apart may)) g
    alike d (Y.Constant x) may K L g = on (l x) K (L (Apart may)) g
    alike d (Y.Braces x xs) may K L g = on (s OpenBrace) _ _ (round d _ _ (λ e. alike e x false _ (λ m. F.flats limit e (as_more xs) m (λ j. sign CloseBrace (L (Apart may)))) (alike_more e xs _ (λ j. sign CloseBrace (L (Apart may))) (on (s CloseBrace) K (L (Apart may)) g))))
    alike d (Y.Parens x) may K L g = on (s Open) _ _ (round d _ _ (λ e. alike e x true _ (λ m. sign Close (L (Apart may))) (on (s Close) K (L (Apart may)) g)))
    alike d (Y.Unary u x) may K L g = on (s Open) _ _ (round d _ _ (λ e. on (s (unary_mark u)) _ _ (alike e x false _ (λ m. sign Close (L (Apart may))) (on (s Close) K (L (Apart may)) g))))
    alike d (Y.Binary o x y) may K L g = on (s Open) _ _ (round d _ _ (λ e. alike e x true _ (λ m. F.tail limit e (F.Link o (single (as_prim y)) F.End) m (λ j. sign Close (L (Apart may)))) (on (s (binary_mark o)) _ _ (alike e y false _ (λ m. sign Close (L (Apart may))) (on (s Close) K (L (Apart may)) g)))))
    alike d (Y.Choice c x y) may K L g = on (s Open) _ _ (round d _ _ (λ e. alike e c true _ (λ m. F.tail limit e (F.Ask (only (as_prim x)) (only (as_prim y))) m (λ j. sign Close (L (Apart may)))) (on (s Question) _ _ (alike e x false _ (λ m. sign Colon (F.flat limit e (only (as_prim y)) m (λ j. sign Close (L (Apart may))))) (on (s Colon) _ _ (alike e y false _ (λ m. sign Close (L (Apart may))) (on (s Close) K (L (Apart may)) g)))))))

    pub alike_more : (d : ℕ) (xs : Y.Exprs) (K : List Token → Type 0) (L : Count → List Token → Type 0) → Same K (L (Apart false)) → Same (Y.exprs limit d xs K) (F.flats limit d (as_more xs) (Apart false) L)
    alike_more d Y.NoExpr K L g = g
    alike_more d (Y.AndExpr x xs) K L g = on (s Comma) _ _ (alike d x false _ (λ m. F.flats limit d (as_more xs) m L) (alike_more d xs K L g))

  -- ---- each such flat form is one of full parentheses

  abbrev Prims : F.Prim → Type 0
  Prims p = (x : Y.Expr) × (as_prim x ≡ p)

  mutual
    prim_full : (d : ℕ) (p : F.Prim) (may : Bool) (X : Type 0) (L : Count → List Token → Type 0) → ((r : List Token) → Prims p → L (Apart may) r → X) → (ts : List Token) → F.prim limit d p (Apart may) L ts → X
    prim_full d (F.Name w) may X L f = shown (n w) X (L (Apart may)) (λ r. f r (Y.Name w, refl))
    prim_full d (F.Select w j) may X L f = shown (joined _ _ (n w) (joined _ _ (s OpenBracket) (joined _ _ (i j) (s CloseBracket)))) X (L (Apart may)) (λ r. f r (Y.Select w j, refl))
    prim_full d (F.Range w h j) may X L f = shown (joined _ _ (n w) (joined _ _ (s OpenBracket) (joined _ _ (i h) (joined _ _ (s Colon) (joined _ _ (i j) (s CloseBracket)))))) X (L (Apart may)) (λ r. f r (Y.Range w h j, refl))
    prim_full d (F.Constant x) may X L f = shown (l x) X (L (Apart may)) (λ r. f r (Y.Constant x, refl))
    prim_full d (F.Braces x xs) may X L f = shown (s OpenBrace) X _ (λ us. within (deeper limit d) _ X (λ e. only_full e x X (λ m. F.flats limit e xs m (λ j. sign CloseBrace (L (Apart may)))) (λ r a. more_full e xs X (λ j. sign CloseBrace (L (Apart may))) (λ q b. shown (s CloseBrace) X (L (Apart may)) (λ z. f z (Y.Braces a.0 b.0, ap₂ F.Braces a.1 b.1)) q) r) us))
    prim_full d (F.Parens x) may X L f = shown (s Open) X _ (λ us. within (deeper limit d) _ X (λ e. round_full e x X (sign Close (L (Apart may))) (λ r a. shown (s Close) X (L (Apart may)) (λ z. f z a) r) us))

    -- without an operator
    only_full : (d : ℕ) (x : F.Flat) (X : Type 0) (L : Count → List Token → Type 0) → ((r : List Token) → ((y : Y.Expr) × (only (as_prim y) ≡ x)) → L (Apart false) r → X) → (ts : List Token) → F.flat limit d x (Apart false) L ts → X
    only_full d (F.FlatOf (F.OperandOf None p) F.End) X L f = prim_full d p false X L (λ r a. f r (a.0, ap only a.1))
    only_full d (F.FlatOf (F.OperandOf None p) (F.Link o y t)) X L f = prim_full d p false X _ (λ r a k. absurd k)
    only_full d (F.FlatOf (F.OperandOf None p) (F.Ask y z)) X L f = prim_full d p false X _ (λ r a k. absurd k)
    only_full d (F.FlatOf (F.OperandOf (Some u) p) t) X L f = λ ts k. absurd k

    -- with at most one, in a parenthesis
    round_full : (d : ℕ) (x : F.Flat) (X : Type 0) (L : List Token → Type 0) → ((r : List Token) → Prims (F.Parens x) → L r → X) → (ts : List Token) → F.flat limit d x (Apart true) (λ m. L) ts → X
    round_full d (F.FlatOf (F.OperandOf None p) F.End) X L f = prim_full d p true X (λ m. L) (λ r a. f r (Y.Parens a.0, ap (λ q. F.Parens (only q)) a.1))
    round_full d (F.FlatOf (F.OperandOf None p) (F.Link o (F.OperandOf None q) F.End)) X L f = prim_full d p true X _ (λ r a. shown (s (binary_mark o)) X _ (prim_full d q false X (λ m. L) (λ z b. f z (Y.Binary o a.0 b.0, ap₂ (λ (v w : F.Prim). F.Parens (F.FlatOf (single v) (F.Link o (single w) F.End))) a.1 b.1))) r)
    round_full d (F.FlatOf (F.OperandOf None p) (F.Link o (F.OperandOf None q) (F.Link c y t))) X L f = prim_full d p true X _ (λ r a. shown (s (binary_mark o)) X _ (prim_full d q false X _ (λ z b k. absurd k)) r)
    round_full d (F.FlatOf (F.OperandOf None p) (F.Link o (F.OperandOf None q) (F.Ask y t))) X L f = prim_full d p true X _ (λ r a. shown (s (binary_mark o)) X _ (prim_full d q false X _ (λ z b k. absurd k)) r)
    round_full d (F.FlatOf (F.OperandOf None p) (F.Link o (F.OperandOf (Some u) q) t)) X L f = prim_full d p true X _ (λ r a. shown (s (binary_mark o)) X _ (λ z k. absurd k) r)
    round_full d (F.FlatOf (F.OperandOf None p) (F.Ask y z)) X L f = prim_full d p true X _ (λ r a. shown (s Question) X _ (only_full d y X (λ m. sign Colon (F.flat limit d z m (λ j. L))) (λ q b. shown (s Colon) X _ (only_full d z X (λ m. L) (λ w c. f w (Y.Choice a.0 b.0 c.0, ap (λ (v : F.Prim). F.Parens (F.FlatOf (single v) (F.Ask (only (as_prim b.0)) (only (as_prim c.0))))) a.1 ∙ ap₂ (λ (v w : F.Flat). F.Parens (F.FlatOf (single p) (F.Ask v w))) b.1 c.1))) q)) r)
    round_full d (F.FlatOf (F.OperandOf (Some u) p) F.End) X L f = shown (s (unary_mark u)) X _ (prim_full d p false X (λ m. L) (λ r a. f r (Y.Unary u a.0, ap (λ q. F.Parens (F.FlatOf (F.OperandOf (Some u) q) F.End)) a.1)))
    round_full d (F.FlatOf (F.OperandOf (Some u) p) (F.Link o y t)) X L f = shown (s (unary_mark u)) X _ (prim_full d p false X _ (λ r a k. absurd k))
    round_full d (F.FlatOf (F.OperandOf (Some u) p) (F.Ask y z)) X L f = shown (s (unary_mark u)) X _ (prim_full d p false X _ (λ r a k. absurd k))

    more_full : (d : ℕ) (xs : F.Flats) (X : Type 0) (L : Count → List Token → Type 0) → ((r : List Token) → ((ys : Y.Exprs) × (as_more ys ≡ xs)) → L (Apart false) r → X) → (ts : List Token) → F.flats limit d xs (Apart false) L ts → X
    more_full d F.NoFlat X L f = λ ts. f ts (Y.NoExpr, refl)
    more_full d (F.AndFlat x xs) X L f = shown (s Comma) X _ (only_full d x X (λ m. F.flats limit d xs m L) (λ r a. more_full d xs X L (λ q b. f q (Y.AndExpr a.0 b.0, ap₂ F.AndFlat a.1 b.1)) r))

-- ---- both

pub full_texts : (limit : Limit) (d : ℕ) (K : P.Expression → List Token → Type 0) (ts : List Token) → ((x : Y.Expr) × Y.expr limit d x (K (Y.expr_tree x)) ts) ↔ ((x : F.Flat) × F.flat limit d x (Apart false) (λ n. K (F.flat_tree x)) ts)
full_texts limit d K ts = (λ h. (only (as_prim h.0), (here h.0).0 h.1), λ h. from h.0 h.1)
  where
    here : (x : Y.Expr) → Y.expr limit d x (K (Y.expr_tree x)) ts ↔ F.flat limit d (only (as_prim x)) (Apart false) (λ n. K (F.flat_tree (only (as_prim x)))) ts
    here x = alike limit d x false (K (Y.expr_tree x)) (λ n. K (F.prim_tree (as_prim x))) (λ us. subst (λ (e : P.Expression). K (Y.expr_tree x) us ↔ K e us) (sym (same_prim x)) same) ts

    from : (x : F.Flat) → F.flat limit d x (Apart false) (λ n. K (F.flat_tree x)) ts → (y : Y.Expr) × Y.expr limit d y (K (Y.expr_tree y)) ts
    from x h =
        let g = only_full limit d x ((y : Y.Expr) × (only (as_prim y) ≡ x)) (λ n. K (F.flat_tree x)) (λ r a k. a) ts h in
        (g.0, (here g.0).1 (subst (λ (z : F.Flat). F.flat limit d z (Apart false) (λ n. K (F.flat_tree z)) ts) (sym g.1) h))
