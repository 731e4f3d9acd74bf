-- Operands taken one after another make the tree of the ten rules.
use Rattle.std.proofs.Common.{◌≡◌, ℕ, zero, suc, ◌≤◌, ◌<◌, Bool, List, [], ◌∷◌, refl, sym, ap, ◌∙◌, subst, arith, if◌then◌else◌}
use Rattle.std.proofs.lemmas.Bool.{le-leb, lt-leb}
use Rattle.verilog_tree.specs.declared.tree.BinOp.{BinOp}
use Rattle.verilog_tree.specs.Plain as P
use Rattle.verilog_tree.specs.Free as T
use Rattle.verilog_text.specs.Flat as F
use Rattle.verilog_text.proofs.Flattened.{flattened, head, behind, links_behind, flat_prim, all_flattened, Fits, FitsRule, FitsLinks, FitsPrim, FitsAll}

-- the first operator of a tail, if it has one, binds at most as tightly as one of this height
abbrev pub From : ℕ → F.Tail → Type 0
From h F.End = Unit {0}
From h (F.Link o x t) = h ≤ T.height o
From h (F.Ask x y) = Unit {0}

-- the operator that waits last, if there is one, binds less tightly than one of this height
abbrev pub Under : ℕ → List F.Left → Type 0
Under h [] = Unit {0}
Under h (w ∷ ws) = h < T.height w.operator

abbrev at_rest : List F.Left → P.Expression → F.Waiting
at_rest ws e = record { lefts = ws; last = e }

abbrev left : BinOp → P.Expression → F.Left
left o e = record { operand = e; operator = o }

from_less : (k : ℕ) (t : F.Tail) → From (suc k) t → From k t
from_less k F.End h = tt
from_less k (F.Link o x t) h = omega arith
from_less k (F.Ask x y) h = tt

under_less : (k : ℕ) (ws : List F.Left) → Under (suc k) ws → Under k ws
under_less k [] h = tt
under_less k (w ∷ ws) h = omega arith

from_links : (k : ℕ) (xs : T.Links) → FitsLinks k xs → (t : F.Tail) → From (suc (suc k)) t → From (suc k) (links_behind xs t)
from_links k T.NoLink f t h = from_less (suc k) t h
from_links k (T.AndLink o x xs) f t h = let e : T.height o ≡ suc k = f.0 in omega arith

-- an operator that binds less tightly stays
stays : (h : ℕ) (ws : List F.Left) (e : P.Expression) → Under h ws → F.settle h ws e ≡ at_rest ws e
stays h [] e u = refl
stays h (w ∷ ws) e u = ap (λ (b : Bool). if b then F.settle h ws (F.joined w e) else at_rest (w ∷ ws) e) (lt-leb (T.height w.operator) h u)

-- one that binds at least as tightly takes its operand
takes : (w : F.Left) (ws : List F.Left) (e : P.Expression) (t : F.Tail) → From (T.height w.operator) t → F.tail_tree (w ∷ ws) e t ≡ F.tail_tree ws (F.joined w e) t
takes w ws e F.End h = refl
takes w ws e (F.Link o x t) h = ap (λ (b : Bool). F.tail_tree (F.waits o (if b then F.settle (T.height o) ws (F.joined w e) else at_rest (w ∷ ws) e)) (F.operand_tree x) t) (le-leb (T.height w.operator) (T.height o) h)
takes w ws e (F.Ask x y) h = refl

mutual
  pub grouped : (x : T.Expr) → Fits x → F.flat_tree (flattened x) ≡ T.expr_tree x
  grouped (T.Simple x) f = rule_grouped T.lor x f [] tt F.End tt
  grouped (T.Choice c x y) f = rule_grouped T.lor c f.0 [] tt (F.Ask (flattened x) (flattened y)) tt ∙ ap (λ e. P.Conditional (T.rule_tree c) e (F.flat_tree (flattened y))) (grouped x f.1) ∙ ap (λ e. P.Conditional (T.rule_tree c) (T.expr_tree x) e) (grouped y f.2)

  -- a derivation of rule k is one operand, where only looser operators wait and come
  rule_grouped : (k : ℕ) (x : T.Rule) → FitsRule k x → (ws : List F.Left) → Under k ws → (t : F.Tail) → From (suc k) t → F.tail_tree ws (F.operand_tree (head x)) (behind x t) ≡ F.tail_tree ws (T.rule_tree x) t
  rule_grouped (suc k) (T.Chain x xs) f ws u t h = rule_grouped k x f.0 ws (under_less k ws u) (links_behind xs t) (from_links k xs f.1 t h) ∙ links_grouped k xs f.1 (T.rule_tree x) ws u t h
  rule_grouped zero (T.Operand o p) f ws u t h = ap (λ e. F.tail_tree ws (T.signed o e) t) (prim_grouped p f)
  rule_grouped zero (T.Chain x xs) f ws u t h = absurd f
  rule_grouped (suc k) (T.Operand o p) f ws u t h = absurd f

  links_grouped : (k : ℕ) (xs : T.Links) → FitsLinks k xs → (e : P.Expression) (ws : List F.Left) → Under (suc k) ws → (t : F.Tail) → From (suc (suc k)) t → F.tail_tree ws e (links_behind xs t) ≡ F.tail_tree ws (T.links_tree e xs) t
  links_grouped k T.NoLink f e ws u t h = refl
  links_grouped k (T.AndLink o x xs) f e ws u t h =
      let is : T.height o ≡ suc k = f.0 in
      let waiting = ap (λ (c : F.Waiting). F.tail_tree (F.waits o c) (F.operand_tree (head x)) (behind x (links_behind xs t))) (stays (T.height o) ws e (subst (λ n. Under n ws) (sym is) u)) in
      let second = rule_grouped k x f.1 (left o e ∷ ws) (omega arith) (links_behind xs t) (from_links k xs f.2 t h) in
      let taken = takes (left o e) ws (T.rule_tree x) (links_behind xs t) (subst (λ n. From n (links_behind xs t)) (sym is) (from_links k xs f.2 t h)) in
      let others = links_grouped k xs f.2 (P.Infixed o e (T.rule_tree x)) ws u t h in
      waiting ∙ second ∙ taken ∙ others

  prim_grouped : (p : T.Prim) → FitsPrim p → F.prim_tree (flat_prim p) ≡ T.prim_tree p
  prim_grouped (T.Name n) f = refl
  prim_grouped (T.Select n i) f = refl
  prim_grouped (T.Range n h l) f = refl
  prim_grouped (T.Constant x) f = refl
  prim_grouped (T.Braces x xs) f = ap (λ e. P.Concatenation (P.Followed e (F.flats_tree (all_flattened xs)))) (grouped x f.0) ∙ ap (λ es. P.Concatenation (P.Followed (T.expr_tree x) es)) (all_grouped xs f.1)
  prim_grouped (T.Parens x) f = grouped x f

  all_grouped : (xs : T.Exprs) → FitsAll xs → F.flats_tree (all_flattened xs) ≡ T.exprs_tree xs
  all_grouped T.NoExpr f = refl
  all_grouped (T.AndExpr x xs) f = ap (λ e. P.Followed e (F.flats_tree (all_flattened xs))) (grouped x f.0) ∙ ap (λ es. P.Followed (T.expr_tree x) es) (all_grouped xs f.1)
