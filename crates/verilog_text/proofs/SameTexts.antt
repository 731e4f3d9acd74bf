-- The grammar of ten rules is the flat one, with the tree by precedence, and as many operators.
use Rattle.std.proofs.Common.{◌≡◌, ℕ, true, List, ◌↔◌, sym, ap, ◌∙◌, subst, arith}
use Rattle.bist_text.proofs.Pieces.{same}
use Rattle.verilog_tree.specs.Pieces.{Limit, few}
use Rattle.verilog_tree.specs.Plain as P
use Rattle.verilog_tree.specs.Tokens.{Token}
use Rattle.verilog_tree.specs.Free as T
use Rattle.verilog_tree.specs.Free.{operators}
use Rattle.verilog_text.specs.Flat as F
use Rattle.verilog_text.proofs.Uncounted as U
use Rattle.verilog_text.proofs.Flattened.{flattened}
use Rattle.verilog_text.proofs.Grouping.{grouped}
use Rattle.verilog_text.proofs.Alike.{fits, alike}
use Rattle.verilog_text.proofs.Nesting.{nested, nested_is}
use Rattle.verilog_text.proofs.Counting.{past, counts, none_is_few, counted_flat}

-- a derivation by ten rules is a flat form
pub to_flat : (limit : Limit) (d : ℕ) (K : P.Expression → List Token → Type 0) (ts : List Token) → (x : T.Expr) → T.expr limit d x (K (T.expr_tree x)) ts → (y : F.Flat) × ((F.flat_tree y ≡ T.expr_tree x) × U.flat limit d y (K (F.flat_tree y)) ts)
to_flat limit d K ts x h = let f = fits limit d x (K (T.expr_tree x)) ts h in (flattened x, (grouped x f, subst (λ (e : P.Expression). U.flat limit d (flattened x) (K e) ts) (sym (grouped x f)) ((alike limit d x f (K (T.expr_tree x)) (K (T.expr_tree x)) (λ us. same) ts).0 h)))

-- and the other way round
pub from_flat : (limit : Limit) (d : ℕ) (K : P.Expression → List Token → Type 0) (ts : List Token) → (y : F.Flat) → U.flat limit d y (K (F.flat_tree y)) ts → (x : T.Expr) × ((T.expr_tree x ≡ F.flat_tree y) × T.expr limit d x (K (T.expr_tree x)) ts)
from_flat limit d K ts y h =
    let n = nested_is y in
    let x = nested y in
    let t : T.expr_tree x ≡ F.flat_tree y = sym (grouped x n.0) ∙ ap F.flat_tree n.1 in
    let g = subst (λ (z : F.Flat). U.flat limit d z (K (F.flat_tree y)) ts) (sym n.1) h in
    let k = subst (λ (e : P.Expression). U.flat limit d (flattened x) (K e) ts) (sym t) g in
    (x, (t, (alike limit d x n.0 (K (T.expr_tree x)) (K (T.expr_tree x)) (λ us. same) ts).1 k))

-- how many operators a flat form has
all_counted : (x : F.Flat) → past x 0 ≡ operators (F.flat_tree x)
all_counted x = let k = counts x 0 in omega arith

abbrev pub Few : Limit → P.Expression → Type 0
Few limit e = few limit (operators e) ≡ true

pub same_texts : (limit : Limit) (d : ℕ) (K : P.Expression → List Token → Type 0) (ts : List Token) → ((x : T.Expr) × (Few limit (T.expr_tree x) × T.expr limit d x (K (T.expr_tree x)) ts)) ↔ ((x : F.Flat) × F.flat limit d x (F.Together 0) (λ n. K (F.flat_tree x)) ts)
same_texts limit d K ts = (λ h. to h.0 h.1.0 h.1.1, λ h. from h.0 h.1)
  where
    to : (x : T.Expr) → Few limit (T.expr_tree x) → T.expr limit d x (K (T.expr_tree x)) ts → (y : F.Flat) × F.flat limit d y (F.Together 0) (λ n. K (F.flat_tree y)) ts
    to x e h =
        let g = to_flat limit d K ts x h in
        (g.0, (counted_flat limit d g.0 0 (none_is_few limit) (λ n. K (F.flat_tree g.0)) ts).1 (subst (λ n. few limit n ≡ true) (sym (all_counted g.0 ∙ ap operators g.1.0)) e, g.1.1))

    from : (y : F.Flat) → F.flat limit d y (F.Together 0) (λ n. K (F.flat_tree y)) ts → (x : T.Expr) × (Few limit (T.expr_tree x) × T.expr limit d x (K (T.expr_tree x)) ts)
    from y h =
        let u = (counted_flat limit d y 0 (none_is_few limit) (λ n. K (F.flat_tree y)) ts).0 h in
        let g = from_flat limit d K ts y u.1 in
        (g.0, (subst (λ n. few limit n ≡ true) (all_counted y ∙ ap operators (sym g.1.0)) u.0, g.1.1))
