-- What a text spells within the limits of numbers has the sizes of a formed module.
use Rattle.std.proofs.Common.{◌≡◌, ℕ, ◌+◌, Bool, true, false, nat_le, List, [], ◌∷◌, ◌++◌, Option, Some, None, refl, subst, arith, codes, zero, suc}
use Rattle.std.proofs.lemmas.Bool.{and_parts, and_from, le-leb, leb-true}
use Rattle.bist_bits.specs.Vector.{Vector}
use Rattle.bist_text.specs.Grammar.{when}
use Rattle.bist_text.specs.Machine.{Holds}
use Rattle.verilog_tree.specs.declared.tokens.Mark.{Mark}
use Rattle.verilog_tree.specs.declared.tokens.Mark.TheVariants.{Open, Close, OpenBracket, CloseBracket, OpenBrace, CloseBrace, Comma, Semicolon, Colon, At, Question, Equals, LessEquals}
use Rattle.verilog_tree.specs.declared.tree.Dir.TheVariants.{Input, Output, OutputReg}
use Rattle.verilog_tree.specs.declared.tree.Dir.{Dir}
use Rattle.verilog_tree.specs.Formed.{is_width, is_place, is_literal, expression_formed, expressions_formed, labels_formed, statement_formed, statements_formed, arms_formed, item_formed, items_formed, ports_formed, formed}
use Rattle.verilog_tree.specs.Grammar.{Expr, Stmt, BeginEnd, If, IfElse, Case, Assign, Stmts, NoStmt, AndStmt, ArmOf, Arms, NoArm, AndArm, Default, NoDefault, ItsDefault, Item, Wires, Regs, Drives, Always, Port, File, Limit, deeper, is_sign, is_zero, sign, keyword, name, number, zero_number, literal, inside, unary_mark, binary_mark, expr, literals, colon_if, ends_in_if, stmt, stmts, arms, default, range, names, item, items, wire_if, direction, port, ports, file, expr_tree, then_all, alone, stmt_tree, stmts_tree, arms_tree, default_tree, range_width, each, item_tree, items_tree, ports_tree, file_tree, Style, Parenthesised, ByPrecedence, Full, Free}
use Rattle.verilog_tree.specs.Parenthesised as Y
use Rattle.verilog_tree.specs.Free as T
use Rattle.verilog_tree.specs.Plain as P
use Rattle.verilog_tree.specs.Spells.{all_limits, small_numbers, keeps, all_keep, Text, bounded}
use Rattle.verilog_tree.specs.Tokens.{Token, Identifier, Number, Based, Unused, Sign}

-- tokens within the limits of numbers follow
abbrev pub Kept : (List Token → Type 0) → Type 0
Kept K = (ts : List Token) × (all_keep small_numbers ts ≡ true) × K ts

held : (b : Bool) (P : Type 0) → when b P → P
held true P h = h
held false P h = absurd h

-- ---- tokens

sign_on : (m : Mark) {K : List Token → Type 0} → Kept (sign m K) → Kept K
sign_on m {K} h = go h.0 h.1 h.2
  where
    go : (ts : List Token) → all_keep small_numbers ts ≡ true → sign m K ts → Kept K
    go [] k s = absurd s
    go (Sign n ∷ ts) k s = (ts, k, held (is_sign m n) (K ts) s)
    go (t ∷ ts) k s = absurd s

keyword_on : {w : List ℕ} {K : List Token → Type 0} → Kept (keyword w K) → Kept K
keyword_on {w} {K} h = go h.0 h.1 h.2
  where
    go : (ts : List Token) → all_keep small_numbers ts ≡ true → keyword w K ts → Kept K
    go [] k s = absurd s
    go (Identifier v ∷ ts) k s = (ts, (and_parts (keeps small_numbers (Identifier v)) (all_keep small_numbers ts) k).1, held _ (K ts) s)
    go (t ∷ ts) k s = absurd s

name_on : {w : List ℕ} {K : List Token → Type 0} → Kept (name w K) → Kept K
name_on {w} {K} h = go h.0 h.1 h.2
  where
    go : (ts : List Token) → all_keep small_numbers ts ≡ true → name w K ts → Kept K
    go [] k s = absurd s
    go (Identifier v ∷ ts) k s = (ts, (and_parts (keeps small_numbers (Identifier v)) (all_keep small_numbers ts) k).1, s.2)
    go (t ∷ ts) k s = absurd s

number_on : {n : ℕ} {K : List Token → Type 0} → Kept (number n K) → (is_place n ≡ true) × Kept K
number_on {n} {K} h = go h.0 h.1 h.2
  where
    go : (ts : List Token) → all_keep small_numbers ts ≡ true → number n K ts → (is_place n ≡ true) × Kept K
    go [] k s = absurd s
    go (Number l m ∷ ts) k s = let p = and_parts (is_place m) (all_keep small_numbers ts) k in (subst (λ x. is_place x ≡ true) s.0 p.0, (ts, p.1, s.1))
    go (t ∷ ts) k s = absurd s

zero_on : {K : List Token → Type 0} → Kept (zero_number K) → Kept K
zero_on {K} h = go h.0 h.1 h.2
  where
    go : (ts : List Token) → all_keep small_numbers ts ≡ true → zero_number K ts → Kept K
    go [] k s = absurd s
    go (Number l m ∷ ts) k s = (ts, (and_parts (is_place m) (all_keep small_numbers ts) k).1, held (is_zero l m) (K ts) s)
    go (t ∷ ts) k s = absurd s

literal_on : {x : Vector} {K : List Token → Type 0} → Kept (literal x K) → (is_literal x ≡ true) × Kept K
literal_on {x} {K} h = go h.0 h.1 h.2
  where
    go : (ts : List Token) → all_keep small_numbers ts ≡ true → literal x K ts → (is_literal x ≡ true) × Kept K
    go [] k s = absurd s
    go (Based y ∷ ts) k s = let p = and_parts (is_literal y) (all_keep small_numbers ts) k in (subst (λ z. is_literal z ≡ true) s.0 p.0, (ts, p.1, s.1))
    go (t ∷ ts) k s = absurd s

inside_on : (l : Limit) (d : ℕ) {K : ℕ → List Token → Type 0} → Kept (inside l d K) → (e : ℕ) × Kept (K e)
inside_on l d {K} h = go (deeper l d) h.2
  where
    go : (o : Option ℕ) → Holds o (λ e. K e h.0) → (e : ℕ) × Kept (K e)
    go None s = absurd s
    go (Some e) s = (e, (h.0, h.1, s))

-- ---- expressions

mutual
  expr_on : (l : Limit) (d : ℕ) (x : Y.Expr) (K : List Token → Type 0) → Kept (Y.expr l d x K) → (expression_formed (Y.expr_tree x) ≡ true) × Kept K
  expr_on l d (Y.Name n) K h = (refl, name_on h)
  expr_on l d (Y.Select n i) K h = let a = number_on (sign_on OpenBracket (name_on h)) in (a.0, sign_on CloseBracket a.1)
  expr_on l d (Y.Range n i j) K h = let a = number_on (sign_on OpenBracket (name_on h)) in let b = number_on (sign_on Colon a.1) in (and_from (is_place i) (is_place j) a.0 b.0, sign_on CloseBracket b.1)
  expr_on l d (Y.Constant x) K h = literal_on h
  expr_on l d (Y.Braces x xs) K h =
      let a = inside_on l d (sign_on OpenBrace h) in
      let b = expr_on l a.0 x _ a.1 in
      let c = exprs_on l a.0 xs _ b.1 in
      (and_from (expression_formed (Y.expr_tree x)) (expressions_formed (Y.exprs_tree xs)) b.0 c.0, sign_on CloseBrace c.1)
  expr_on l d (Y.Parens x) K h = let a = inside_on l d (sign_on Open h) in let b = expr_on l a.0 x _ a.1 in (b.0, sign_on Close b.1)
  expr_on l d (Y.Unary o x) K h = let a = inside_on l d (sign_on Open h) in let b = expr_on l a.0 x _ (sign_on (unary_mark o) a.1) in (b.0, sign_on Close b.1)
  expr_on l d (Y.Binary o x y) K h =
      let a = inside_on l d (sign_on Open h) in
      let b = expr_on l a.0 x _ a.1 in
      let c = expr_on l a.0 y _ (sign_on (binary_mark o) b.1) in
      (and_from (expression_formed (Y.expr_tree x)) (expression_formed (Y.expr_tree y)) b.0 c.0, sign_on Close c.1)
  expr_on l d (Y.Choice c x y) K h =
      let a = inside_on l d (sign_on Open h) in
      let b = expr_on l a.0 c _ a.1 in
      let e = expr_on l a.0 x _ (sign_on Question b.1) in
      let f = expr_on l a.0 y _ (sign_on Colon e.1) in
      (and_from _ (expression_formed (Y.expr_tree y)) (and_from (expression_formed (Y.expr_tree c)) (expression_formed (Y.expr_tree x)) b.0 e.0) f.0, sign_on Close f.1)

  exprs_on : (l : Limit) (d : ℕ) (xs : Y.Exprs) (K : List Token → Type 0) → Kept (Y.exprs l d xs K) → (expressions_formed (Y.exprs_tree xs) ≡ true) × Kept K
  exprs_on l d Y.NoExpr K h = (refl, h)
  exprs_on l d (Y.AndExpr x xs) K h = let a = expr_on l d x _ (sign_on Comma h) in let b = exprs_on l d xs K a.1 in (and_from (expression_formed (Y.expr_tree x)) (expressions_formed (Y.exprs_tree xs)) a.0 b.0, b.1)

-- the same by precedence
mutual
  free_on : (l : Limit) (d : ℕ) (x : T.Expr) (K : List Token → Type 0) → Kept (T.expr l d x K) → (expression_formed (T.expr_tree x) ≡ true) × Kept K
  free_on l d (T.Simple x) K h = rule_on l d T.lor x K h
  free_on l d (T.Choice c x y) K h =
      let a = rule_on l d T.lor c _ h in
      let b = free_on l d x _ (sign_on Question a.1) in
      let e = free_on l d y K (sign_on Colon b.1) in
      (and_from _ (expression_formed (T.expr_tree y)) (and_from (expression_formed (T.rule_tree c)) (expression_formed (T.expr_tree x)) a.0 b.0) e.0, e.1)

  rule_on : (l : Limit) (d k : ℕ) (x : T.Rule) (K : List Token → Type 0) → Kept (T.rule l d k x K) → (expression_formed (T.rule_tree x) ≡ true) × Kept K
  rule_on l d (suc k) (T.Chain x xs) K h = let a = rule_on l d k x _ h in links_on l d k xs (T.rule_tree x) a.0 K a.1
  rule_on l d zero (T.Operand None p) K h = prim_on l d p K h
  rule_on l d zero (T.Operand (Some u) p) K h = prim_on l d p K (sign_on (unary_mark u) h)
  rule_on l d zero (T.Chain x xs) K h = absurd h.2
  rule_on l d (suc k) (T.Operand v p) K h = absurd h.2

  links_on : (l : Limit) (d k : ℕ) (xs : T.Links) (e : P.Expression) → expression_formed e ≡ true → (K : List Token → Type 0) → Kept (T.links l d k xs K) → (expression_formed (T.links_tree e xs) ≡ true) × Kept K
  links_on l d k T.NoLink e f K h = (f, h)
  links_on l d k (T.AndLink o x xs) e f K h = let a = rule_on l d k x _ (sign_on (binary_mark o) (h.0, h.1, h.2.1)) in links_on l d k xs (P.Infixed o e (T.rule_tree x)) (and_from (expression_formed e) (expression_formed (T.rule_tree x)) f a.0) K a.1

  prim_on : (l : Limit) (d : ℕ) (p : T.Prim) (K : List Token → Type 0) → Kept (T.prim l d p K) → (expression_formed (T.prim_tree p) ≡ true) × Kept K
  prim_on l d (T.Name n) K h = (refl, name_on h)
  prim_on l d (T.Select n i) K h = let a = number_on (sign_on OpenBracket (name_on h)) in (a.0, sign_on CloseBracket a.1)
  prim_on l d (T.Range n i j) K h = let a = number_on (sign_on OpenBracket (name_on h)) in let b = number_on (sign_on Colon a.1) in (and_from (is_place i) (is_place j) a.0 b.0, sign_on CloseBracket b.1)
  prim_on l d (T.Constant x) K h = literal_on h
  prim_on l d (T.Braces x xs) K h =
      let a = inside_on l d (sign_on OpenBrace h) in
      let b = free_on l a.0 x _ a.1 in
      let c = others_on l a.0 xs _ b.1 in
      (and_from (expression_formed (T.expr_tree x)) (expressions_formed (T.exprs_tree xs)) b.0 c.0, sign_on CloseBrace c.1)
  prim_on l d (T.Parens x) K h = let a = inside_on l d (sign_on Open h) in let b = free_on l a.0 x _ a.1 in (b.0, sign_on Close b.1)

  others_on : (l : Limit) (d : ℕ) (xs : T.Exprs) (K : List Token → Type 0) → Kept (T.exprs l d xs K) → (expressions_formed (T.exprs_tree xs) ≡ true) × Kept K
  others_on l d T.NoExpr K h = (refl, h)
  others_on l d (T.AndExpr x xs) K h = let a = free_on l d x _ (sign_on Comma h) in let b = others_on l d xs K a.1 in (and_from (expression_formed (T.expr_tree x)) (expressions_formed (T.exprs_tree xs)) a.0 b.0, b.1)

any_on : (style : Style) (l : Limit) (d : ℕ) (x : Expr) (K : List Token → Type 0) → Kept (expr style l d x K) → (expression_formed (expr_tree x) ≡ true) × Kept K
any_on Parenthesised l d (Full x) K h = expr_on l d x K h
any_on ByPrecedence l d (Free x) K h = free_on l d x K (h.0, h.1, h.2.1)
any_on Parenthesised l d (Free x) K h = absurd h.2
any_on ByPrecedence l d (Full x) K h = absurd h.2

-- ---- statements

literals_on : (xs : List Vector) (K : List Token → Type 0) → Kept (literals xs K) → (labels_formed xs ≡ true) × Kept K
literals_on [] K h = (refl, h)
literals_on (x ∷ xs) K h = let a = literal_on (sign_on Comma h) in let b = literals_on xs K a.1 in (and_from (is_literal x) (labels_formed xs) a.0 b.0, b.1)

colon_on : (c : Bool) (K : List Token → Type 0) → Kept (colon_if c K) → Kept K
colon_on true K h = sign_on Colon h
colon_on false K h = h

all_formed : (a b : P.Statements) → statements_formed a ≡ true → statements_formed b ≡ true → statements_formed (then_all a b) ≡ true
all_formed P.Done b h k = k
all_formed (P.Then s ss) b h k = let p = and_parts (statement_formed s) (statements_formed ss) h in and_from (statement_formed s) (statements_formed (then_all ss b)) p.0 (all_formed ss b p.1 k)

one_formed : (s : P.Statement) → statement_formed s ≡ true → statements_formed (alone s) ≡ true
one_formed s h = and_from (statement_formed s) true h refl

arm_formed : (x : Vector) (xs : List Vector) (s : P.Statements) (rest : P.Arms) → is_literal x ≡ true → labels_formed xs ≡ true → statements_formed s ≡ true → arms_formed rest ≡ true → arms_formed (P.ArmOf (x ∷ xs) s rest) ≡ true
arm_formed x xs s rest a b c d = and_from _ (arms_formed rest) (and_from _ (statements_formed s) (and_from (is_literal x) (labels_formed xs) a b) c) d

mutual
  stmt_on : (style : Style) (l : Limit) (d : ℕ) (s : Stmt) (K : List Token → Type 0) → Kept (stmt style l d s K) → (statements_formed (stmt_tree s) ≡ true) × Kept K
  stmt_on style l d (BeginEnd ss) K h = let a = inside_on l d (keyword_on h) in let b = stmts_on style l a.0 ss _ a.1 in (b.0, keyword_on b.1)
  stmt_on style l d (If c s) K h =
      let a = inside_on l d (keyword_on h) in
      let b = inside_on l a.0 (sign_on Open a.1) in
      let e = any_on style l b.0 c _ b.1 in
      let f = stmt_on style l a.0 s K (sign_on Close e.1) in
      (one_formed (P.IfElse (expr_tree c) (stmt_tree s) P.Done) (and_from _ true (and_from (expression_formed (expr_tree c)) (statements_formed (stmt_tree s)) e.0 f.0) refl), f.1)
  stmt_on style l d (IfElse c s t) K h =
      let a = inside_on l d (keyword_on h) in
      let b = inside_on l a.0 (sign_on Open a.1) in
      let e = any_on style l b.0 c _ b.1 in
      let f = stmt_on style l a.0 s (λ ts. (ends_in_if s ≡ false) × keyword (codes "else") (stmt style l a.0 t K) ts) (sign_on Close e.1) in
      let g = stmt_on style l a.0 t K (keyword_on (f.1.0, f.1.1, f.1.2.1)) in
      (one_formed (P.IfElse (expr_tree c) (stmt_tree s) (stmt_tree t)) (and_from _ (statements_formed (stmt_tree t)) (and_from (expression_formed (expr_tree c)) (statements_formed (stmt_tree s)) e.0 f.0) g.0), g.1)
  stmt_on style l d (Case x (ArmOf v vs s) as' o) K h =
      let a = inside_on l d (keyword_on h) in
      let b = inside_on l a.0 (sign_on Open a.1) in
      let e = any_on style l b.0 x _ b.1 in
      let f = literal_on (sign_on Close e.1) in
      let g = literals_on vs _ f.1 in
      let i = stmt_on style l a.0 s _ (sign_on Colon g.1) in
      let j = arms_on style l a.0 as' _ i.1 in
      let k = default_on style l a.0 o _ j.1 in
      (one_formed (P.CaseOf (expr_tree x) (P.ArmOf (v ∷ vs) (stmt_tree s) (arms_tree as')) (default_tree o)) (and_from _ (statements_formed (default_tree o)) (and_from _ (arms_formed (P.ArmOf (v ∷ vs) (stmt_tree s) (arms_tree as'))) (and_from (expression_formed (expr_tree x)) true e.0 refl) (arm_formed v vs (stmt_tree s) (arms_tree as') f.0 g.0 i.0 j.0)) k.0), keyword_on k.1)
  stmt_on style l d (Assign n x) K h = let a = any_on style l d x _ (sign_on LessEquals (name_on h)) in (one_formed (P.SetTo n (expr_tree x)) a.0, sign_on Semicolon a.1)

  stmts_on : (style : Style) (l : Limit) (d : ℕ) (ss : Stmts) (K : List Token → Type 0) → Kept (stmts style l d ss K) → (statements_formed (stmts_tree ss) ≡ true) × Kept K
  stmts_on style l d NoStmt K h = (refl, h)
  stmts_on style l d (AndStmt s ss) K h = let a = stmt_on style l d s _ h in let b = stmts_on style l d ss K a.1 in (all_formed (stmt_tree s) (stmts_tree ss) a.0 b.0, b.1)

  arms_on : (style : Style) (l : Limit) (d : ℕ) (as' : Arms) (K : List Token → Type 0) → Kept (arms style l d as' K) → (arms_formed (arms_tree as') ≡ true) × Kept K
  arms_on style l d NoArm K h = (refl, h)
  arms_on style l d (AndArm (ArmOf v vs s) as') K h =
      let f = literal_on h in
      let g = literals_on vs _ f.1 in
      let i = stmt_on style l d s _ (sign_on Colon g.1) in
      let j = arms_on style l d as' K i.1 in
      (arm_formed v vs (stmt_tree s) (arms_tree as') f.0 g.0 i.0 j.0, j.1)

  default_on : (style : Style) (l : Limit) (d : ℕ) (o : Default) (K : List Token → Type 0) → Kept (default style l d o K) → (statements_formed (default_tree o) ≡ true) × Kept K
  default_on style l d NoDefault K h = (refl, h)
  default_on style l d (ItsDefault c s) K h = stmt_on style l d s K (colon_on c _ (keyword_on h))

-- ---- items

range_on : (r : Option ℕ) (K : List Token → Type 0) → Kept (range r K) → (is_width (range_width r) ≡ true) × Kept K
range_on None K h = (refl, h)
range_on (Some i) K h = let a = number_on (sign_on OpenBracket h) in let l = leb-true i 63 a.0 in (and_from (nat_le 1 (i + 1)) (nat_le (i + 1) 64) (le-leb 1 (i + 1) (omega arith)) (le-leb (i + 1) 64 (omega (arith, l))), sign_on CloseBracket (zero_on (sign_on Colon a.1)))

names_on : (ns : List (List ℕ)) (K : List Token → Type 0) → Kept (names ns K) → Kept K
names_on [] K h = h
names_on (n ∷ ns) K h = names_on ns K (name_on (sign_on Comma h))

both_formed : (a b : List P.ModuleItem) → items_formed a ≡ true → items_formed b ≡ true → items_formed (a ++ b) ≡ true
both_formed [] b h k = k
both_formed (i ∷ a) b h k = let p = and_parts (item_formed i) (items_formed a) h in and_from (item_formed i) (items_formed (a ++ b)) p.0 (both_formed a b p.1 k)

each_formed : (make : List ℕ → P.ModuleItem) → ((n : List ℕ) → item_formed (make n) ≡ true) → (ns : List (List ℕ)) → items_formed (each make ns) ≡ true
each_formed make h [] = refl
each_formed make h (n ∷ ns) = and_from (item_formed (make n)) (items_formed (each make ns)) (h n) (each_formed make h ns)

item_on : (style : Style) (l : Limit) (i : Item) (K : List Token → Type 0) → Kept (item style l i K) → (items_formed (item_tree i) ≡ true) × Kept K
item_on style l (Wires r n ns) K h = let a = range_on r _ (keyword_on h) in (each_formed (λ m. P.WireItem m (range_width r)) (λ m. a.0) (n ∷ ns), sign_on Semicolon (names_on ns _ (name_on a.1)))
item_on style l (Regs r n ns) K h = let a = range_on r _ (keyword_on h) in (each_formed (λ m. P.RegItem m (range_width r)) (λ m. a.0) (n ∷ ns), sign_on Semicolon (names_on ns _ (name_on a.1)))
item_on style l (Drives n x) K h = let a = any_on style l 0 x _ (sign_on Equals (name_on (keyword_on h))) in (and_from (expression_formed (expr_tree x)) true a.0 refl, sign_on Semicolon a.1)
item_on style l (Always c s) K h = let b = inside_on l 0 (sign_on Open (sign_on At (keyword_on h))) in let a = stmt_on style l 0 s K (sign_on Close (name_on (keyword_on b.1))) in (and_from (statements_formed (stmt_tree s)) true a.0 refl, a.1)

items_on : (style : Style) (l : Limit) (is : List Item) (K : List Token → Type 0) → Kept (items style l is K) → (items_formed (items_tree is) ≡ true) × Kept K
items_on style l [] K h = (refl, h)
items_on style l (i ∷ is) K h = let a = item_on style l i _ h in let b = items_on style l is K a.1 in (both_formed (item_tree i) (items_tree is) a.0 b.0, b.1)

wire_on : (w : Bool) (K : List Token → Type 0) → Kept (wire_if w K) → Kept K
wire_on true K h = keyword_on h
wire_on false K h = h

direction_on : (d : Dir) (w : Bool) (K : List Token → Type 0) → Kept (direction d w K) → Kept K
direction_on Input w K h = wire_on w K (keyword_on h)
direction_on Output w K h = wire_on w K (keyword_on h)
direction_on OutputReg true K h = absurd (keyword_on h).2
direction_on OutputReg false K h = keyword_on (keyword_on h)

port_on : (p : Port) (K : List Token → Type 0) → Kept (port p K) → (is_width (range_width p.range) ≡ true) × Kept K
port_on p K h = let a = range_on p.range _ (direction_on p.dir p.wire _ h) in (a.0, name_on a.1)

ports_on : (ps : List Port) (K : List Token → Type 0) → Kept (ports ps K) → (ports_formed (ports_tree ps) ≡ true) × Kept K
ports_on [] K h = (refl, h)
ports_on (p ∷ ps) K h = let a = port_on p _ (sign_on Comma h) in let b = ports_on ps K a.1 in (and_from (is_width (range_width p.range)) (ports_formed (ports_tree ps)) a.0 b.0, b.1)

pub file_on : (style : Style) (l : Limit) (f : File) → Kept (file style l f) → formed (file_tree f) ≡ true
file_on style l f h =
    let e = inside_on l 0 (sign_on Open (name_on (keyword_on h))) in
    let a = port_on f.port _ e.1 in
    let b = ports_on f.ports _ a.1 in
    let c = items_on style l f.items _ (sign_on Semicolon (sign_on Close b.1)) in
    and_from _ (items_formed (items_tree f.items)) (and_from (is_width (range_width f.port.range)) (ports_formed (ports_tree f.ports)) a.0 b.0) c.0

-- all limits are those of numbers too
small_of_all : (ts : List Token) → all_keep all_limits ts ≡ true → all_keep small_numbers ts ≡ true
small_of_all [] k = refl
small_of_all (t ∷ ts) k = let a = and_parts (keeps all_limits t) (all_keep all_limits ts) k in and_from (keeps small_numbers t) (all_keep small_numbers ts) (go t a.0) (small_of_all ts a.1)
  where
    go : (t : Token) → keeps all_limits t ≡ true → keeps small_numbers t ≡ true
    go (Identifier v) k = refl
    go (Number l n) k = k
    go (Based x) k = k
    go Unused k = refl
    go (Sign m) k = refl

pub spelled_formed : (style : Style) (b : List ℕ) (mo : P.ModuleTree) → Text style all_limits b mo → formed mo ≡ true
spelled_formed style b mo h = subst (λ x. formed x ≡ true) h.3.2 (file_on style bounded h.3.0 (h.0, small_of_all h.0 h.2, h.3.1))
