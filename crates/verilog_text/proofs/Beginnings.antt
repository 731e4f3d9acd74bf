-- An expression that stands in no other begins, in either style.
use Rattle.std.proofs.Common.{ℕ, List, ◌↔◌}
use Rattle.verilog_tree.specs.Plain as P
use Rattle.verilog_tree.specs.Tokens.{Token}
use Rattle.verilog_tree.specs.Grammar.{Limit, Style, Parenthesised, ByPrecedence, Expr, Full, Free, expr, expr_tree}
use Rattle.verilog_text.specs.Flat as F
use Rattle.verilog_text.specs.Flat.{none_yet}
use Rattle.verilog_text.specs.inner.Following.{AfterAlone, after_alone, rest}
use Rattle.verilog_text.specs.Places.{Alone, begin_expr, AtExpr}
use Rattle.verilog_text.proofs.FullTexts.{full_texts}
use Rattle.verilog_text.proofs.SameTexts.{same_texts}

module _ (limit : Limit) where
  -- a derivation of either style is a flat form, counted as its style wants it
  flat_of : (y : Style) (q : ℕ) (K : P.Expression → List Token → Type 0) (ts : List Token) (x : Expr) → expr y limit q x (K (expr_tree x)) ts → (z : F.Flat) × F.flat limit q z (none_yet y) (λ n. K (F.flat_tree z)) ts
  flat_of Parenthesised q K ts (Full x) h = (full_texts limit q K ts).0 (x, h)
  flat_of ByPrecedence q K ts (Free x) h = (same_texts limit q K ts).0 (x, (h.0, h.1))
  flat_of Parenthesised q K ts (Free x) h = absurd h
  flat_of ByPrecedence q K ts (Full x) h = absurd h

  -- and the other way round
  of_flat : (y : Style) (q : ℕ) (K : P.Expression → List Token → Type 0) (ts : List Token) (z : F.Flat) → F.flat limit q z (none_yet y) (λ n. K (F.flat_tree z)) ts → (x : Expr) × expr y limit q x (K (expr_tree x)) ts
  of_flat Parenthesised q K ts z h = let g = (full_texts limit q K ts).1 (z, h) in (Full g.0, g.1)
  of_flat ByPrecedence q K ts z h = let g = (same_texts limit q K ts).1 (z, h) in (Free g.0, (g.1.0, g.1.1))

  pub begins : (y : Style) (q : ℕ) (b : Alone) (ts : List Token) (v : P.ModuleTree) → ((x : Expr) × (t : AfterAlone b) × expr y limit q x (after_alone limit b t q (expr_tree x) v) ts) ↔ rest limit (AtExpr (begin_expr y q b)) ts v
  begins y q b ts v = (λ h. to h.1 (flat_of y q (λ e. after_alone limit b h.1 q e v) ts h.0 h.2), λ h. let g = of_flat y q (λ e. after_alone limit b h.2 q e v) ts (F.FlatOf h.0 h.1) h.3 in (g.0, h.2, g.1))
    where
      to : (t : AfterAlone b) → ((z : F.Flat) × F.flat limit q z (none_yet y) (λ n. after_alone limit b t q (F.flat_tree z) v) ts) → rest limit (AtExpr (begin_expr y q b)) ts v
      to t h = go h.0 h.1
        where
          go : (z : F.Flat) → F.flat limit q z (none_yet y) (λ n. after_alone limit b t q (F.flat_tree z) v) ts → rest limit (AtExpr (begin_expr y q b)) ts v
          go (F.FlatOf x r) k = (x, r, t, k)
