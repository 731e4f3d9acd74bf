-- The derivation of what is printed, and its tree, which is the module printed.
use Rattle.std.proofs.Common.{◌≡◌, ℕ, nat_le, ◌-◌, ◌&&◌, nat_lt, Bool, true, false, List, [], ◌∷◌, Option, Some, None, refl, ap, if◌then◌else◌, ◌++◌, ◌∙◌, ◌<◌, ◌≤◌, arith}
use Rattle.std.proofs.lemmas.Bool.{ltb-true, leb-true, ltb-false}
use Rattle.bist_bits.specs.Vector.{Vector}
use Rattle.verilog_tree.specs.Formed.{is_width, has_expression, expression_formed, expressions_formed, has_label, labels_formed, statement_formed, statements_formed, arms_formed, item_formed, items_formed, ports_formed}
use Rattle.verilog_tree.specs.Parenthesised.{Expr, Name, Select, Range, Constant, Braces, Unary, Binary, Choice, Exprs, NoExpr, AndExpr, expr_tree, exprs_tree}
use Rattle.verilog_tree.specs.Grammar.{Full, Stmt, BeginEnd, If, IfElse, Case, Assign, Stmts, NoStmt, AndStmt, Arm, ArmOf, Arms, NoArm, AndArm, NoDefault, ItsDefault, Item, Wires, Regs, Drives, Always, Port, File, stmt_tree, stmts_tree, arm_tree, arms_tree, range_width, item_tree, items_tree, port_tree, ports_tree, file_tree, alone, then_all}
use Rattle.verilog_tree.specs.Plain as P
use Rattle.verilog_emit.proofs.Pieces.{both}

abbrev mutual
  pub derive : P.Expression → Expr
  derive (P.Net n) = Name n
  derive (P.BitSelect n i) = Select n i
  derive (P.PartSelect n h l) = Range n h l
  derive (P.Literal x) = Constant x
  derive (P.Concatenation xs) = braces xs
  derive (P.Prefixed o x) = Unary o (derive x)
  derive (P.Infixed o x y) = Binary o (derive x) (derive y)
  derive (P.Conditional c x y) = Choice (derive c) (derive x) (derive y)

  -- without parts there is nothing to derive, and any derivation stands here
  pub braces : P.Expressions → Expr
  braces P.NoMore = Name []
  braces (P.Followed x xs) = Braces (derive x) (derive_more xs)

  pub derive_more : P.Expressions → Exprs
  derive_more P.NoMore = NoExpr
  derive_more (P.Followed x xs) = AndExpr (derive x) (derive_more xs)

abbrev pub derive_arm : List Vector → Stmt → Arm
derive_arm [] s = ArmOf (record { width = 0; value = 0 }) [] s
derive_arm (x ∷ xs) s = ArmOf x xs s

abbrev mutual
  pub derive_stmt : P.Statement → Stmt
  derive_stmt (P.SetTo n x) = Assign n (Full (derive x))
  derive_stmt (P.IfElse c a P.Done) = If (Full (derive c)) (BeginEnd (derive_stmts a))
  derive_stmt (P.IfElse c a (P.Then s ss)) = IfElse (Full (derive c)) (BeginEnd (derive_stmts a)) (BeginEnd (AndStmt (derive_stmt s) (derive_stmts ss)))
  derive_stmt (P.CaseOf x P.NoArm d) = Assign [] (Full (derive x))
  derive_stmt (P.CaseOf x (P.ArmOf ls b as') P.Done) = Case (Full (derive x)) (derive_arm ls (BeginEnd (derive_stmts b))) (derive_arms as') NoDefault
  derive_stmt (P.CaseOf x (P.ArmOf ls b as') (P.Then s ss)) = Case (Full (derive x)) (derive_arm ls (BeginEnd (derive_stmts b))) (derive_arms as') (ItsDefault true (BeginEnd (AndStmt (derive_stmt s) (derive_stmts ss))))

  pub derive_stmts : P.Statements → Stmts
  derive_stmts P.Done = NoStmt
  derive_stmts (P.Then s ss) = AndStmt (derive_stmt s) (derive_stmts ss)

  pub derive_arms : P.Arms → Arms
  derive_arms P.NoArm = NoArm
  derive_arms (P.ArmOf ls b as') = AndArm (derive_arm ls (BeginEnd (derive_stmts b))) (derive_arms as')

-- the range of a width above 1
abbrev pub derive_range : ℕ → Option ℕ
derive_range w = if nat_lt 1 w then Some (w - 1) else None

abbrev pub derive_item : P.ModuleItem → Item
derive_item (P.WireItem n w) = Wires (derive_range w) n []
derive_item (P.RegItem n w) = Regs (derive_range w) n []
derive_item (P.AssignItem n x) = Drives n (Full (derive x))
derive_item (P.AlwaysItem c ss) = Always c (BeginEnd (derive_stmts ss))

abbrev pub derive_items : List P.ModuleItem → List Item
derive_items [] = []
derive_items (i ∷ is) = derive_item i ∷ derive_items is

abbrev pub derive_port : P.ModulePort → Port
derive_port p = record { dir = p.dir; wire = false; range = derive_range p.width; name = p.name }

abbrev pub derive_ports : List P.ModulePort → List Port
derive_ports [] = []
derive_ports (p ∷ ps) = derive_port p ∷ derive_ports ps

abbrev pub derive_file : List ℕ → P.ModulePort → List P.ModulePort → List P.ModuleItem → File
derive_file n p ps is = record { name = n; port = derive_port p; ports = derive_ports ps; items = derive_items is }

-- ---- their trees

mutual
  pub same_tree : (x : P.Expression) → expression_formed x ≡ true → expr_tree (derive x) ≡ x
  same_tree (P.Net n) d = refl
  same_tree (P.BitSelect n i) d = refl
  same_tree (P.PartSelect n h l) d = refl
  same_tree (P.Literal x) d = refl
  same_tree (P.Concatenation xs) d = let e : (has_expression xs ≡ true) × (expressions_formed xs ≡ true) = both (has_expression xs) (expressions_formed xs) d in same_braces xs e.0 e.1
  same_tree (P.Prefixed u x) d = ap (P.Prefixed u) (same_tree x d)
  same_tree (P.Infixed b x y) d = let e : (expression_formed x ≡ true) × (expression_formed y ≡ true) = both (expression_formed x) (expression_formed y) d in let i : expr_tree (derive x) ≡ x = same_tree x e.0 in let j : expr_tree (derive y) ≡ y = same_tree y e.1 in cc
  same_tree (P.Conditional c x y) d = let e : ((expression_formed c && expression_formed x) ≡ true) × (expression_formed y ≡ true) = both (expression_formed c && expression_formed x) (expression_formed y) d in let e' : (expression_formed c ≡ true) × (expression_formed x ≡ true) = both (expression_formed c) (expression_formed x) e.0 in let h : expr_tree (derive c) ≡ c = same_tree c e'.0 in let i : expr_tree (derive x) ≡ x = same_tree x e'.1 in let j : expr_tree (derive y) ≡ y = same_tree y e.1 in cc

  same_braces : (xs : P.Expressions) → has_expression xs ≡ true → expressions_formed xs ≡ true → expr_tree (braces xs) ≡ P.Concatenation xs
  same_braces P.NoMore h d = cc
  same_braces (P.Followed x xs) h d = let e : (expression_formed x ≡ true) × (expressions_formed xs ≡ true) = both (expression_formed x) (expressions_formed xs) d in let i : expr_tree (derive x) ≡ x = same_tree x e.0 in let j : exprs_tree (derive_more xs) ≡ xs = same_more xs e.1 in cc

  same_more : (xs : P.Expressions) → expressions_formed xs ≡ true → exprs_tree (derive_more xs) ≡ xs
  same_more P.NoMore d = refl
  same_more (P.Followed x xs) d = let e : (expression_formed x ≡ true) × (expressions_formed xs ≡ true) = both (expression_formed x) (expressions_formed xs) d in let i : expr_tree (derive x) ≡ x = same_tree x e.0 in let j : exprs_tree (derive_more xs) ≡ xs = same_more xs e.1 in cc

same_arm : (ls : List Vector) (s : Stmt) (rest : P.Arms) → has_label ls ≡ true → arm_tree (derive_arm ls s) rest ≡ P.ArmOf ls (stmt_tree s) rest
same_arm [] s rest h = cc
same_arm (x ∷ xs) s rest h = refl

one : (s : P.Statement) (ss : P.Statements) (t : P.Statements) → t ≡ alone s → then_all t ss ≡ P.Then s ss
one s ss t e = ap (λ (x : P.Statements). then_all x ss) e

-- what is formed in arms
pub record ArmFormed (ls : List Vector) (b : P.Statements) (as' : P.Arms) : Type 0 where
  pub label : has_label ls ≡ true
  pub labels : labels_formed ls ≡ true
  pub body : statements_formed b ≡ true
  pub others : arms_formed as' ≡ true

pub arm_formed : (ls : List Vector) (b : P.Statements) (as' : P.Arms) → arms_formed (P.ArmOf ls b as') ≡ true → ArmFormed ls b as'
arm_formed ls b as' d =
    let e : ((has_label ls && labels_formed ls && statements_formed b) ≡ true) × (arms_formed as' ≡ true) = both (has_label ls && labels_formed ls && statements_formed b) (arms_formed as') d in
    let f : ((has_label ls && labels_formed ls) ≡ true) × (statements_formed b ≡ true) = both (has_label ls && labels_formed ls) (statements_formed b) e.0 in
    let g : (has_label ls ≡ true) × (labels_formed ls ≡ true) = both (has_label ls) (labels_formed ls) f.0 in
    record { label = g.0; labels = g.1; body = f.1; others = e.1 }

pub no_arm : (a b : Bool) → (a && false && true && b) ≡ true → ⊥
no_arm true b h = cc
no_arm false b h = cc

mutual
  pub same_stmt : (s : P.Statement) → statement_formed s ≡ true → stmt_tree (derive_stmt s) ≡ alone s
  same_stmt (P.SetTo n x) d = ap (λ (e : P.Expression). alone (P.SetTo n e)) (same_tree x d)
  same_stmt (P.IfElse c a P.Done) d =
      let e : (expression_formed c ≡ true) × (statements_formed a ≡ true) = both (expression_formed c) (statements_formed a) (both (expression_formed c && statements_formed a) true d).0 in
      let i : expr_tree (derive c) ≡ c = same_tree c e.0 in
      let j : stmts_tree (derive_stmts a) ≡ a = same_stmts a e.1 in
      cc
  same_stmt (P.IfElse c a (P.Then s ss)) d =
      let f : ((expression_formed c && statements_formed a) ≡ true) × ((statement_formed s && statements_formed ss) ≡ true) = both (expression_formed c && statements_formed a) (statement_formed s && statements_formed ss) d in
      let e : (expression_formed c ≡ true) × (statements_formed a ≡ true) = both (expression_formed c) (statements_formed a) f.0 in
      let g : (statement_formed s ≡ true) × (statements_formed ss ≡ true) = both (statement_formed s) (statements_formed ss) f.1 in
      let i : expr_tree (derive c) ≡ c = same_tree c e.0 in
      let j : stmts_tree (derive_stmts a) ≡ a = same_stmts a e.1 in
      let k : then_all (stmt_tree (derive_stmt s)) (stmts_tree (derive_stmts ss)) ≡ P.Then s (stmts_tree (derive_stmts ss)) = one s (stmts_tree (derive_stmts ss)) (stmt_tree (derive_stmt s)) (same_stmt s g.0) in
      let l : stmts_tree (derive_stmts ss) ≡ ss = same_stmts ss g.1 in
      cc
  same_stmt (P.CaseOf x P.NoArm o) d = absurd (no_arm (expression_formed x) (statements_formed o) d)
  same_stmt (P.CaseOf x (P.ArmOf ls b as') P.Done) d =
      let f : ((expression_formed x && true && arms_formed (P.ArmOf ls b as')) ≡ true) × (true ≡ true) = both (expression_formed x && true && arms_formed (P.ArmOf ls b as')) true d in
      let g : ((expression_formed x && true) ≡ true) × (arms_formed (P.ArmOf ls b as') ≡ true) = both (expression_formed x && true) (arms_formed (P.ArmOf ls b as')) f.0 in
      let a = arm_formed ls b as' g.1 in
      let i : expr_tree (derive x) ≡ x = same_tree x (both (expression_formed x) true g.0).0 in
      let j : arm_tree (derive_arm ls (BeginEnd (derive_stmts b))) (arms_tree (derive_arms as')) ≡ P.ArmOf ls (stmts_tree (derive_stmts b)) (arms_tree (derive_arms as')) = same_arm ls (BeginEnd (derive_stmts b)) (arms_tree (derive_arms as')) a.label in
      let k : stmts_tree (derive_stmts b) ≡ b = same_stmts b a.body in
      let l : arms_tree (derive_arms as') ≡ as' = same_arms as' a.others in
      cc
  same_stmt (P.CaseOf x (P.ArmOf ls b as') (P.Then s ss)) d =
      let f : ((expression_formed x && true && arms_formed (P.ArmOf ls b as')) ≡ true) × ((statement_formed s && statements_formed ss) ≡ true) = both (expression_formed x && true && arms_formed (P.ArmOf ls b as')) (statement_formed s && statements_formed ss) d in
      let g : ((expression_formed x && true) ≡ true) × (arms_formed (P.ArmOf ls b as') ≡ true) = both (expression_formed x && true) (arms_formed (P.ArmOf ls b as')) f.0 in
      let o : (statement_formed s ≡ true) × (statements_formed ss ≡ true) = both (statement_formed s) (statements_formed ss) f.1 in
      let a = arm_formed ls b as' g.1 in
      let i : expr_tree (derive x) ≡ x = same_tree x (both (expression_formed x) true g.0).0 in
      let j : arm_tree (derive_arm ls (BeginEnd (derive_stmts b))) (arms_tree (derive_arms as')) ≡ P.ArmOf ls (stmts_tree (derive_stmts b)) (arms_tree (derive_arms as')) = same_arm ls (BeginEnd (derive_stmts b)) (arms_tree (derive_arms as')) a.label in
      let k : stmts_tree (derive_stmts b) ≡ b = same_stmts b a.body in
      let l : arms_tree (derive_arms as') ≡ as' = same_arms as' a.others in
      let m : then_all (stmt_tree (derive_stmt s)) (stmts_tree (derive_stmts ss)) ≡ P.Then s (stmts_tree (derive_stmts ss)) = one s (stmts_tree (derive_stmts ss)) (stmt_tree (derive_stmt s)) (same_stmt s o.0) in
      let n : stmts_tree (derive_stmts ss) ≡ ss = same_stmts ss o.1 in
      cc

  pub same_arms : (as' : P.Arms) → arms_formed as' ≡ true → arms_tree (derive_arms as') ≡ as'
  same_arms P.NoArm d = refl
  same_arms (P.ArmOf ls b as') d =
      let a = arm_formed ls b as' d in
      let j : arm_tree (derive_arm ls (BeginEnd (derive_stmts b))) (arms_tree (derive_arms as')) ≡ P.ArmOf ls (stmts_tree (derive_stmts b)) (arms_tree (derive_arms as')) = same_arm ls (BeginEnd (derive_stmts b)) (arms_tree (derive_arms as')) a.label in
      let k : stmts_tree (derive_stmts b) ≡ b = same_stmts b a.body in
      let l : arms_tree (derive_arms as') ≡ as' = same_arms as' a.others in
      cc

  pub same_stmts : (ss : P.Statements) → statements_formed ss ≡ true → stmts_tree (derive_stmts ss) ≡ ss
  same_stmts P.Done d = refl
  same_stmts (P.Then s ss) d =
      let g : (statement_formed s ≡ true) × (statements_formed ss ≡ true) = both (statement_formed s) (statements_formed ss) d in
      let k : then_all (stmt_tree (derive_stmt s)) (stmts_tree (derive_stmts ss)) ≡ P.Then s (stmts_tree (derive_stmts ss)) = one s (stmts_tree (derive_stmts ss)) (stmt_tree (derive_stmt s)) (same_stmt s g.0) in
      let l : stmts_tree (derive_stmts ss) ≡ ss = same_stmts ss g.1 in
      cc

-- ---- ports and items

pub same_range : (w : ℕ) → is_width w ≡ true → range_width (derive_range w) ≡ w
same_range w h = go (nat_lt 1 w) refl
  where
    go : (t : Bool) → nat_lt 1 w ≡ t → range_width (if t then Some (w - 1) else None) ≡ w
    go true e = let above : 1 < w = ltb-true 1 w e in omega arith
    go false e = let some : 1 ≤ w = leb-true 1 w (both (nat_le 1 w) (nat_le w 64) h).0 in let below : w ≤ 1 = ltb-false 1 w e in omega arith

pub same_item : (i : P.ModuleItem) → item_formed i ≡ true → item_tree (derive_item i) ≡ i ∷ []
same_item (P.WireItem n w) d = ap (λ (v : ℕ). P.WireItem n v ∷ []) (same_range w d)
same_item (P.RegItem n w) d = ap (λ (v : ℕ). P.RegItem n v ∷ []) (same_range w d)
same_item (P.AssignItem n x) d = ap (λ (e : P.Expression). P.AssignItem n e ∷ []) (same_tree x d)
same_item (P.AlwaysItem c ss) d = ap (λ (t : P.Statements). P.AlwaysItem c t ∷ []) (same_stmts ss d)

pub same_items : (is : List P.ModuleItem) → items_formed is ≡ true → items_tree (derive_items is) ≡ is
same_items [] d = refl
same_items (i ∷ is) d =
    let e : (item_formed i ≡ true) × (items_formed is ≡ true) = both (item_formed i) (items_formed is) d in
    ap (λ (t : List P.ModuleItem). t ++ items_tree (derive_items is)) (same_item i e.0) ∙ ap (λ (t : List P.ModuleItem). i ∷ t) (same_items is e.1)

pub same_port : (p : P.ModulePort) → is_width p.width ≡ true → port_tree (derive_port p) ≡ p
same_port p d = ap (λ (w : ℕ). let q : P.ModulePort = record { dir = p.dir; name = p.name; width = w } in q) (same_range p.width d)

pub same_ports : (ps : List P.ModulePort) → ports_formed ps ≡ true → ports_tree (derive_ports ps) ≡ ps
same_ports [] d = refl
same_ports (p ∷ ps) d =
    let e : (is_width p.width ≡ true) × (ports_formed ps ≡ true) = both (is_width p.width) (ports_formed ps) d in
    let i : port_tree (derive_port p) ≡ p = same_port p e.0 in
    let j : ports_tree (derive_ports ps) ≡ ps = same_ports ps e.1 in
    cc

pub same_file : (n : List ℕ) (p : P.ModulePort) (ps : List P.ModulePort) (is : List P.ModuleItem) → ports_formed (p ∷ ps) ≡ true → items_formed is ≡ true → file_tree (derive_file n p ps is) ≡ record { name = n; ports = p ∷ ps; items = is }
same_file n p ps is d e =
    let i : port_tree (derive_port p) ∷ ports_tree (derive_ports ps) ≡ p ∷ ps = same_ports (p ∷ ps) d in
    let j : items_tree (derive_items is) ≡ is = same_items is e in
    ap (λ (t : List P.ModulePort). let m : P.ModuleTree = record { name = n; ports = t; items = items_tree (derive_items is) } in m) i ∙ ap (λ (t : List P.ModuleItem). let m : P.ModuleTree = record { name = n; ports = p ∷ ps; items = t } in m) j
