-- Each flat form is one of a derivation by the ten rules.
use Rattle.std.proofs.Common.{◌≡◌, ℕ, zero, suc, ◌≤◌, Bool, true, false, ◌==◌, nat_le, refl, sym, ap, ◌∙◌, arith, if◌then◌else◌, Option}
use Rattle.std.proofs.lemmas.Bool.{leb-true, eqb-true, eq-eqb}
use Rattle.verilog_tree.specs.declared.tree.BinOp.{BinOp}
use Rattle.verilog_tree.specs.declared.tree.BinOp.TheVariants as B
use Rattle.verilog_tree.specs.declared.tree.UnOp.{UnOp}
use Rattle.verilog_tree.specs.Free as T
use Rattle.verilog_text.specs.Flat as F
use Rattle.verilog_text.proofs.Flattened.{flattened, head, behind, links_behind, flat_prim, all_flattened, Fits, FitsRule, FitsPrim, FitsAll}

-- an operand alone, as a derivation of rule k
abbrev pub lift : ℕ → T.Rule → T.Rule
lift zero u = u
lift (suc k) u = T.Chain (lift k u) T.NoLink

-- an operand and an operator in front of a derivation of rule k
abbrev pub front : T.Rule → BinOp → ℕ → T.Rule → T.Rule
front u o (suc k) (T.Chain x xs) = if T.height o == suc k then T.Chain (lift k u) (T.AndLink o x xs) else T.Chain (front u o k x) xs
front u o zero x = x
front u o (suc k) (T.Operand v p) = T.Operand v p

abbrev pub in_front : T.Rule → BinOp → T.Expr → T.Expr
in_front u o (T.Simple x) = T.Simple (front u o T.lor x)
in_front u o (T.Choice c x y) = T.Choice (front u o T.lor c) x y

abbrev mutual
  pub nested : F.Flat → T.Expr
  nested (F.FlatOf x t) = nested_tail (ten_rule x) t

  pub nested_tail : T.Rule → F.Tail → T.Expr
  nested_tail u F.End = T.Simple (lift T.lor u)
  nested_tail u (F.Link o x t) = in_front u o (nested_tail (ten_rule x) t)
  nested_tail u (F.Ask x y) = T.Choice (lift T.lor u) (nested x) (nested y)

  pub ten_rule : F.Operand → T.Rule
  ten_rule (F.OperandOf u p) = T.Operand u (ten_prim p)

  pub ten_prim : F.Prim → T.Prim
  ten_prim (F.Name n) = T.Name n
  ten_prim (F.Select n i) = T.Select n i
  ten_prim (F.Range n h l) = T.Range n h l
  ten_prim (F.Constant x) = T.Constant x
  ten_prim (F.Braces x xs) = T.Braces (nested x) (all_nested xs)
  ten_prim (F.Parens x) = T.Parens (nested x)

  pub all_nested : F.Flats → T.Exprs
  all_nested F.NoFlat = T.NoExpr
  all_nested (F.AndFlat x xs) = T.AndExpr (nested x) (all_nested xs)

-- ---- heights

lowest : (o : BinOp) → nat_le 1 (T.height o) ≡ true
lowest B.Add = refl
lowest o = refl

highest : (o : BinOp) → nat_le (T.height o) T.lor ≡ true
highest B.Add = refl
highest o = refl

-- ---- one operand

lift_head : (k : ℕ) (u : T.Rule) → head (lift k u) ≡ head u
lift_head zero u = refl
lift_head (suc k) u = lift_head k u

lift_behind : (k : ℕ) (v : Option UnOp) (p : T.Prim) (t : F.Tail) → behind (lift k (T.Operand v p)) t ≡ t
lift_behind zero v p t = refl
lift_behind (suc k) v p t = lift_behind k v p t

lift_fits : (k : ℕ) (u : T.Rule) → FitsRule zero u → FitsRule k (lift k u)
lift_fits zero u f = f
lift_fits (suc k) u f = (lift_fits k u f, tt)

-- ---- one more in front

-- by whether the operator has this height
by_height : (P : T.Rule → Type 0) (o : BinOp) (k : ℕ) (a b : T.Rule) → (T.height o ≡ suc k → P a) → ((T.height o ≡ suc k → ⊥) → P b) → P (if T.height o == suc k then a else b)
by_height P o k a b f g = go (T.height o == suc k) refl
  where
    go : (t : Bool) → (T.height o == suc k) ≡ t → P (if t then a else b)
    go true e = f (eqb-true (T.height o) (suc k) e)
    go false e = g (λ h. let c : (T.height o == suc k) ≡ true = eq-eqb (T.height o) (suc k) h in let z : true ≡ false = sym c ∙ e in cc)

abbrev Front : T.Rule → BinOp → ℕ → T.Rule → T.Rule → Type 0
Front u o k x y = FitsRule k y × (head y ≡ head u) × ((t : F.Tail) → behind y t ≡ F.Link o (head x) (behind x t))

less : (h k : ℕ) → h ≤ suc k → (h ≡ suc k → ⊥) → h ≤ k
less h k a e = omega arith

front_is : (v : Option UnOp) (p : T.Prim) → FitsPrim p → (o : BinOp) → 1 ≤ T.height o → (k : ℕ) → T.height o ≤ k → (x : T.Rule) → FitsRule k x → Front (T.Operand v p) o k x (front (T.Operand v p) o k x)
front_is v p fp o low zero high x f = absurd (let z : ⊥ = omega arith in z)
front_is v p fp o low (suc k) high (T.Chain x xs) f = by_height (Front (T.Operand v p) o (suc k) (T.Chain x xs)) o k (T.Chain (lift k (T.Operand v p)) (T.AndLink o x xs)) (T.Chain (front (T.Operand v p) o k x) xs) (λ e. ((lift_fits k (T.Operand v p) fp, (e, f.0, f.1)), lift_head k (T.Operand v p), λ t. lift_behind k v p (F.Link o (head x) (behind x (links_behind xs t))))) (λ e. let r = front_is v p fp o low k (less (T.height o) k high e) x f.0 in ((r.0, f.1), r.1, λ t. r.2 (links_behind xs t)))
front_is v p fp o low (suc k) high (T.Operand w r) f = absurd f

abbrev with_link : F.Operand → BinOp → F.Flat → F.Flat
with_link u o (F.FlatOf x t) = F.FlatOf u (F.Link o x t)

abbrev InFront : F.Operand → BinOp → T.Expr → T.Expr → Type 0
InFront u o z y = Fits y × (flattened y ≡ with_link u o (flattened z))

in_front_is : (v : Option UnOp) (p : T.Prim) → FitsPrim p → (o : BinOp) (z : T.Expr) → Fits z → InFront (head (T.Operand v p)) o z (in_front (T.Operand v p) o z)
in_front_is v p fp o (T.Simple x) f =
    let r = front_is v p fp o (leb-true 1 (T.height o) (lowest o)) T.lor (leb-true (T.height o) T.lor (highest o)) x f in
    (r.0, ap (λ y. F.FlatOf y (behind (front (T.Operand v p) o T.lor x) F.End)) r.1 ∙ ap (λ t. F.FlatOf (head (T.Operand v p)) t) (r.2 F.End))
in_front_is v p fp o (T.Choice c x y) f =
    let r = front_is v p fp o (leb-true 1 (T.height o) (lowest o)) T.lor (leb-true (T.height o) T.lor (highest o)) c f.0 in
    let t : F.Tail = F.Ask (flattened x) (flattened y) in
    ((r.0, f.1, f.2), ap (λ z. F.FlatOf z (behind (front (T.Operand v p) o T.lor c) t)) r.1 ∙ ap (λ s. F.FlatOf (head (T.Operand v p)) s) (r.2 t))

-- ---- whole forms

mutual
  pub nested_is : (x : F.Flat) → Fits (nested x) × (flattened (nested x) ≡ x)
  nested_is (F.FlatOf (F.OperandOf v p) t) = let r = prim_is p in let h = tail_is v (ten_prim p) r.0 t in (h.0, h.1 ∙ ap (λ (q : F.Prim). F.FlatOf (F.OperandOf v q) t) r.1)

  tail_is : (v : Option UnOp) (p : T.Prim) → FitsPrim p → (t : F.Tail) → Fits (nested_tail (T.Operand v p) t) × (flattened (nested_tail (T.Operand v p) t) ≡ F.FlatOf (head (T.Operand v p)) t)
  tail_is v p fp F.End = (lift_fits T.lor (T.Operand v p) fp, refl)
  tail_is v p fp (F.Link o (F.OperandOf w q) t) =
      let b = prim_is q in
      let h = tail_is w (ten_prim q) b.0 t in
      let r = in_front_is v p fp o (nested_tail (T.Operand w (ten_prim q)) t) h.0 in
      (r.0, r.1 ∙ ap (with_link (head (T.Operand v p)) o) (h.1 ∙ ap (λ (z : F.Prim). F.FlatOf (F.OperandOf w z) t) b.1))
  tail_is v p fp (F.Ask x y) =
      let a = nested_is x in
      let b = nested_is y in
      ((lift_fits T.lor (T.Operand v p) fp, a.0, b.0), ap (λ (z : F.Flat). F.FlatOf (head (T.Operand v p)) (F.Ask z (flattened (nested y)))) a.1 ∙ ap (λ (z : F.Flat). F.FlatOf (head (T.Operand v p)) (F.Ask x z)) b.1)

  prim_is : (p : F.Prim) → FitsPrim (ten_prim p) × (flat_prim (ten_prim p) ≡ p)
  prim_is (F.Name n) = (tt, refl)
  prim_is (F.Select n i) = (tt, refl)
  prim_is (F.Range n h l) = (tt, refl)
  prim_is (F.Constant x) = (tt, refl)
  prim_is (F.Braces x xs) = let a = nested_is x in let b = all_is xs in ((a.0, b.0), ap (λ (z : F.Flat). F.Braces z (all_flattened (all_nested xs))) a.1 ∙ ap (λ (z : F.Flats). F.Braces x z) b.1)
  prim_is (F.Parens x) = let a = nested_is x in (a.0, ap (λ (z : F.Flat). F.Parens z) a.1)

  all_is : (xs : F.Flats) → FitsAll (all_nested xs) × (all_flattened (all_nested xs) ≡ xs)
  all_is F.NoFlat = (tt, refl)
  all_is (F.AndFlat x xs) = let a = nested_is x in let b = all_is xs in ((a.0, b.0), ap (λ (z : F.Flat). F.AndFlat z (all_flattened (all_nested xs))) a.1 ∙ ap (λ (z : F.Flats). F.AndFlat x z) b.1)
