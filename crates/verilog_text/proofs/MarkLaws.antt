-- A mark that is wanted.
use Rattle.std.proofs.Common.{◌≡◌, Bool, true, false, List, ◌∷◌, Some, refl, ◌↔◌, ap}
use Rattle.bist_text.proofs.Pieces.{never}
use Rattle.bist_text.specs.Grammar.{when}
use Rattle.bist_text.specs.Machine.{Holds}
use Rattle.verilog_tree.specs.Grammar.{Limit, is_sign, sign}
use Rattle.verilog_tree.specs.Plain as P
use Rattle.verilog_tree.specs.Tokens.{Token, Sign}
use Rattle.verilog_tree.specs.declared.tokens.Mark.{Mark}
use Rattle.verilog_text.specs.inner.Following.{rest_expr, rest}
use Rattle.verilog_text.specs.Places.{more_parts, ExprPlace, State}
use Rattle.verilog_text.specs.Steps.{only_where, expects, step_expr}

module _ (limit : Limit) where
  abbrev pub Law : ExprPlace → Token → List Token → P.ModuleTree → Type 0
  Law p t ts v = rest_expr limit p (t ∷ ts) v ↔ Holds (step_expr limit p t) (λ z. rest limit z ts v)

  -- this mark, and then the state
  pub expects_goes : {X : Type 0} (m : Mark) (s : State) (K : X → List Token → Type 0) (t : Token) (ts : List Token) (v : P.ModuleTree) → (((x : X) × K x ts) ↔ rest limit s ts v) → ((x : X) × sign m (K x) (t ∷ ts)) ↔ Holds (expects m s t) (λ z. rest limit z ts v)
  expects_goes {X} m s K (Sign n) ts v f = go (is_sign m n)
    where
      go : (b : Bool) → ((x : X) × when b (K x ts)) ↔ Holds (only_where b (Some s)) (λ z. rest limit z ts v)
      go true = f
      go false = never (λ h. h.1) (λ z. z)
  expects_goes m s K t ts v f = never (λ h. h.1) (λ z. z)

-- one more part, and then others
pub parts_on : (old : P.Expressions) (e : P.Expression) (es : P.Expressions) → more_parts (more_parts old (P.Followed e P.NoMore)) es ≡ more_parts old (P.Followed e es)
parts_on P.NoMore e es = refl
parts_on (P.Followed x xs) e es = ap (P.Followed x) (parts_on xs e es)
