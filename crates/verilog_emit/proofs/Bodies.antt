-- Bodies: those that are written, and how deep their lines stand.
use Rattle.std.proofs.Common.{Vec, Global, ◌≡◌, ℕ, ◌+◌, ◌-◌, ◌<◌, ◌≤◌, ◌&&◌, ◌==◌, Bool, nat_lt, length, true, false, List, [], ◌∷◌, ◌++◌, map, drop, codes, OnOk, suc, get_or, add-one, subst, refl, sym, ap, ◌∙◌, append_assoc, append-nil, arith, ltb-true}
use Rattle.std.specs.Prelude.{Result}
use Rattle.std.proofs.lemmas.Bool.{and_from, lt-ltb}
use Rattle.verilog_tree.specs.Fits.{expression_fits, statement_fits, statements_fit, arms_fit, item_fits, items_fit, ports_fit, fits}
use Rattle.verilog_tree.specs.Formed.{formed}
use Rattle.verilog_tree.specs.Grammar.{binary_mark}
use Rattle.verilog_tree.specs.Tokens.{mark_text}
use Rattle.verilog_tree.specs.declared.tree.BinOp.{BinOp}
use Rattle.verilog_tree.specs.Plain.{plain_stmt, plain_stmts, arms, plain_item, Expression, Infixed, Conditional, Statement, SetTo, IfElse, CaseOf, Statements, Done, Then, Arms, NoArm, ArmOf, AlwaysItem, ModuleTree}
use Rattle.verilog_tree.specs.inner.Plain.{plain_arm}
use Rattle.verilog_tree.specs.Words.{is_name}
use Rattle.verilog_tree.specs.declared.tree.Stmt.{Stmt}
use Rattle.verilog_tree.specs.declared.tree.Stmt as S
use Rattle.verilog_tree.specs.declared.tree.Arm.{Arm}
use Rattle.verilog_tree.specs.declared.tree.Expr.{Expr}
use Rattle.verilog_tree.specs.declared.tree.BodyItem.{BodyItem}
use Rattle.std.proofs.Math.Seq.{drop-cons}
use Rattle.std.proofs.lemmas.List.{drop_all}
use Rattle.verilog_emit.specs.Printed.{expression_text, unless_empty}
use Rattle.verilog_emit.specs.inner.Shallow.{statement_shallow, statements_shallow, arms_shallow}
use Rattle.verilog_tree.proofs.Layers.{plain_if, plain_case, arm_is}
use Rattle.verilog_emit.proofs.Pieces.{both}

not_left_out : (body : List Stmt) (text : List ℕ) → (length body == 0) ≡ false → unless_empty (plain_stmts body) text ≡ text
not_left_out [] text e = cc
not_left_out (s ∷ ss) text e = refl

-- what was written for a body that is there
pub begun_body : (before between out line text : List ℕ) (body : List Stmt) → false ≡ (length body == 0) → between ≡ before ++ line → out ≡ between ++ text → out ≡ before ++ unless_empty (plain_stmts body) (line ++ text)
begun_body before between out line text body some e f = f ∙ ap (λ (o : List ℕ). o ++ text) e ∙ append_assoc before line text ∙ ap (λ (o : List ℕ). before ++ o) (sym (not_left_out body (line ++ text) (sym some)))

pub ended_body : (before begun between out line text end : List ℕ) (body : List Stmt) → false ≡ (length body == 0) → begun ≡ before ++ line → between ≡ begun ++ text → out ≡ between ++ end → out ≡ before ++ unless_empty (plain_stmts body) (line ++ text ++ end)
ended_body before begun between out line text end body some e f g = g ∙ ap (λ (o : List ℕ). o ++ end) (f ∙ ap (λ (o : List ℕ). o ++ text) e ∙ append_assoc before line text) ∙ append_assoc before (line ++ text) end ∙ ap (λ (o : List ℕ). before ++ o) (sym (not_left_out body (line ++ text ++ end) (sym some)))

-- parts that were written one behind the other
pub two_parts : (before o1 out x y : List ℕ) → o1 ≡ before ++ x → out ≡ o1 ++ y → out ≡ before ++ (x ++ y)
two_parts before o1 out x y e f = f ∙ ap (λ (o : List ℕ). o ++ y) e ∙ append_assoc before x y

pub three_parts : (before o1 o2 out x y z : List ℕ) → o1 ≡ before ++ x → o2 ≡ o1 ++ y → out ≡ o2 ++ z → out ≡ before ++ (x ++ y ++ z)
three_parts before o1 o2 out x y z e f g = g ∙ ap (λ (o : List ℕ). o ++ z) (f ∙ ap (λ (o : List ℕ). o ++ y) e ∙ append_assoc before x y) ∙ append_assoc before (x ++ y) z

pub five_parts : (before o1 o2 o3 o4 out x y z u v : List ℕ) → o1 ≡ before ++ x → o2 ≡ o1 ++ y → o3 ≡ o2 ++ z → o4 ≡ o3 ++ u → out ≡ o4 ++ v → out ≡ before ++ (x ++ y ++ z ++ u ++ v)
five_parts before o1 o2 o3 o4 out x y z u v e f g h i = three_parts before o3 o4 out (x ++ y ++ z) u v (three_parts before o1 o2 o3 x y z e f g) h i

pub four_parts : (before o1 o2 o3 out x y z u : List ℕ) → o1 ≡ before ++ x → o2 ≡ o1 ++ y → o3 ≡ o2 ++ z → out ≡ o3 ++ u → out ≡ before ++ (x ++ y ++ z ++ u)
four_parts before o1 o2 o3 out x y z u e f g h = two_parts before o3 out (x ++ y ++ z) u (three_parts before o1 o2 o3 x y z e f g) h

-- parts with a text between two others behind them
pub behind_all : (m a x b : List ℕ) → m ++ (a ++ x ++ b) ≡ m ++ a ++ x ++ b
behind_all m a x b = sym (append_assoc m (a ++ x) b) ∙ ap (λ (w : List ℕ). w ++ b) (sym (append_assoc m a x))

-- the text of an expression with an operator of two operands: each blank beside it is written with an operand
pub infix_written : (before o1 o2 out : List ℕ) (o : BinOp) (x y : Expression) → o1 ≡ before ++ (codes "(" ++ expression_text x ++ codes " ") → o2 ≡ o1 ++ mark_text (binary_mark o) → out ≡ o2 ++ (codes " " ++ expression_text y ++ codes ")") → out ≡ before ++ expression_text (Infixed o x y)
infix_written before o1 o2 out o x y e f g =
    let mark : List ℕ = mark_text (binary_mark o) in
    let first : List ℕ = codes "(" ++ expression_text x ++ codes " " in
    three_parts before o1 o2 out first mark (codes " " ++ expression_text y ++ codes ")") e f g
    ∙ ap (λ (w : List ℕ). before ++ w) (behind_all (first ++ mark) (codes " ") (expression_text y) (codes ")"))

-- and that of a choice: each of its marks is written with the expression before it
pub choice_written : (before o1 o2 out : List ℕ) (c x y : Expression) → o1 ≡ before ++ (codes "(" ++ expression_text c ++ codes " ? ") → o2 ≡ o1 ++ (expression_text x ++ codes " : ") → out ≡ o2 ++ (expression_text y ++ codes ")") → out ≡ before ++ expression_text (Conditional c x y)
choice_written before o1 o2 out c x y e f g =
    let first : List ℕ = codes "(" ++ expression_text c ++ codes " ? " in
    let second : List ℕ = expression_text x ++ codes " : " in
    three_parts before o1 o2 out first second (expression_text y ++ codes ")") e f g
    ∙ ap (λ (w : List ℕ). before ++ w) (behind_all (first ++ second) [] (expression_text y) (codes ")") ∙ ap (λ (w : List ℕ). w ++ expression_text y ++ codes ")") (append-nil (first ++ second) ∙ behind_all first [] (expression_text x) (codes " : ") ∙ ap (λ (w : List ℕ). w ++ expression_text x ++ codes " : ") (append-nil first)))

-- what was written, told of the value that the tree was found to be
pub told : {T E A B : Type 0} (plainly : A → B) (text : B → List ℕ) (x y : A) (z : B) → x ≡ y → plainly y ≡ z → (r : Result T E) (before out : List ℕ) → OnOk r (out ≡ before ++ text z) → OnOk r (out ≡ before ++ text (plainly x))
told plainly text x y z e f r before out h = subst (λ w. OnOk r (out ≡ before ++ text w)) (sym (ap plainly e ∙ f)) h

above : (d : ℕ) → d < 100 → nat_lt d 100 ≡ true
above d h = lt-ltb d 100 h

mutual
  statement_deep : (d k : ℕ) (s : Statement) → d + k ≤ 65 → statement_fits k s ≡ true → statement_shallow d s ≡ true
  statement_deep d k (SetTo n x) h f = above d (omega arith)
  statement_deep d k (IfElse c a b) h f =
      let f2 : ((nat_lt 1 k && expression_fits (k - 2) c && statements_fit (k - 2) a) ≡ true) × (statements_fit (k - 2) b ≡ true) = both (nat_lt 1 k && expression_fits (k - 2) c && statements_fit (k - 2) a) (statements_fit (k - 2) b) f in
      let f1 : ((nat_lt 1 k && expression_fits (k - 2) c) ≡ true) × (statements_fit (k - 2) a ≡ true) = both (nat_lt 1 k && expression_fits (k - 2) c) (statements_fit (k - 2) a) f2.0 in
      let room : 1 < k = ltb-true 1 k (both (nat_lt 1 k) (expression_fits (k - 2) c) f1.0).0 in
      and_from (nat_lt d 100 && statements_shallow (d + 1) a) (statements_shallow (d + 1) b)
      (and_from (nat_lt d 100) (statements_shallow (d + 1) a) (above d (omega arith)) (statements_deep (d + 1) (k - 2) a (omega arith) f1.1))
      (statements_deep (d + 1) (k - 2) b (omega arith) f2.1)
  statement_deep d k (CaseOf x as' o) h f =
      let f2 : ((nat_lt 1 k && expression_fits (k - 2) x && arms_fit (k - 2) as') ≡ true) × (statements_fit (k - 2) o ≡ true) = both (nat_lt 1 k && expression_fits (k - 2) x && arms_fit (k - 2) as') (statements_fit (k - 2) o) f in
      let f1 : ((nat_lt 1 k && expression_fits (k - 2) x) ≡ true) × (arms_fit (k - 2) as' ≡ true) = both (nat_lt 1 k && expression_fits (k - 2) x) (arms_fit (k - 2) as') f2.0 in
      let room : 1 < k = ltb-true 1 k (both (nat_lt 1 k) (expression_fits (k - 2) x) f1.0).0 in
      and_from (nat_lt d 100 && arms_shallow (d + 1) as' && nat_lt (d + 1) 100) (statements_shallow (d + 2) o)
      (and_from (nat_lt d 100 && arms_shallow (d + 1) as') (nat_lt (d + 1) 100)
      (and_from (nat_lt d 100) (arms_shallow (d + 1) as') (above d (omega arith)) (arms_deep (d + 1) (k - 2) as' (omega arith) (omega arith) f1.1)) (above (d + 1) (omega arith)))
      (statements_deep (d + 2) (k - 2) o (omega arith) f2.1)

  arms_deep : (d k : ℕ) (as' : Arms) → d < 100 → d + k ≤ 64 → arms_fit k as' ≡ true → arms_shallow d as' ≡ true
  arms_deep d k NoArm t h f = refl
  arms_deep d k (ArmOf ls ss as') t h f =
      let g : (statements_fit k ss ≡ true) × (arms_fit k as' ≡ true) = both (statements_fit k ss) (arms_fit k as') f in
      and_from (nat_lt d 100 && statements_shallow (d + 1) ss) (arms_shallow d as')
      (and_from (nat_lt d 100) (statements_shallow (d + 1) ss) (above d t) (statements_deep (d + 1) k ss (omega arith) g.0))
      (arms_deep d k as' t h g.1)

  statements_deep : (d k : ℕ) (ss : Statements) → d + k ≤ 65 → statements_fit k ss ≡ true → statements_shallow d ss ≡ true
  statements_deep d k Done h f = refl
  statements_deep d k (Then s ss) h f =
      let g : (statement_fits k s ≡ true) × (statements_fit k ss ≡ true) = both (statement_fits k s) (statements_fit k ss) f in
      and_from (statement_shallow d s) (statements_shallow d ss) (statement_deep d k s h g.0) (statements_deep d k ss h g.1)

-- the body of a block within the limit
pub block_shallow : (c : List ℕ) (ss : Statements) → item_fits 64 (AlwaysItem c ss) ≡ true → statements_shallow 2 ss ≡ true
block_shallow c ss f = statements_deep 2 63 ss (omega arith) (both (is_name c) (statements_fit 63 ss) f).1

pub items_within : (mo : ModuleTree) → fits mo ≡ true → items_fit 64 mo.items ≡ true
items_within mo f = (both (formed mo && is_name mo.name && ports_fit mo.ports) (items_fit 64 mo.items) f).1

-- ---- one element more

next_one : {A : Type 0} (xs : List A) (i : ℕ) (x : A) → i < length xs → x ≡ get_or xs i x → drop i xs ≡ x ∷ drop (i + 1) xs
next_one xs i x l e = rw add-one (drop-cons xs i x l ∙ ap (λ y. y ∷ drop (suc i) xs) (sym e))

-- the text of an element was written, and that of those behind it is still to be written
pub one_written : {A : Type 0} (text rest : List A → List ℕ) (own : List ℕ) (xs : List A) (i : ℕ) (x : A) (out more whole : List ℕ) → i < length xs → x ≡ get_or xs i x → text (x ∷ drop (i + 1) xs) ≡ own ++ rest (drop (i + 1) xs) → out ++ text (drop i xs) ≡ whole → more ≡ out ++ own → more ++ rest (drop (i + 1) xs) ≡ whole
one_written text rest own xs i x out more whole l e t f g =
    let left : List ℕ = rest (drop (i + 1) xs) in
    ap (λ (o : List ℕ). o ++ left) g ∙ append_assoc out own left
    ∙ ap (λ (o : List ℕ). out ++ o) (sym t)
    ∙ ap (λ ys. out ++ text ys) (sym (next_one xs i x l e)) ∙ f

-- what holds of all that is left holds of the first and of those behind it
pub one_left : {A : Type 0} (holds : List A → Bool) (own : Bool) (xs : List A) (i : ℕ) (x : A) → i < length xs → x ≡ get_or xs i x → holds (x ∷ drop (i + 1) xs) ≡ (own && holds (drop (i + 1) xs)) → holds (drop i xs) ≡ true → (own ≡ true) × (holds (drop (i + 1) xs) ≡ true)
one_left holds own xs i x l e t f = both own (holds (drop (i + 1) xs)) (sym t ∙ sym (ap holds (next_one xs i x l e)) ∙ f)

pub item_left : (items : List BodyItem) (i : ℕ) (x : BodyItem) → i < length items → x ≡ get_or items i x → items_fit 64 (map plain_item (drop i items)) ≡ true → (item_fits 64 (plain_item x) ≡ true) × (items_fit 64 (map plain_item (drop (i + 1) items)) ≡ true)
item_left items i x l e f = one_left (λ is. items_fit 64 (map plain_item is)) (item_fits 64 (plain_item x)) items i x l e refl f

pub arm_left : (d : ℕ) (choices : List Arm) (i : ℕ) (x : Arm) → i < length choices → x ≡ get_or choices i x → arms_shallow d (arms (map plain_arm (drop i choices))) ≡ true → ((nat_lt d 100 && statements_shallow (d + 1) (plain_stmts x.body.items)) ≡ true) × (arms_shallow d (arms (map plain_arm (drop (i + 1) choices))) ≡ true)
arm_left d choices i x l e f =
    one_left (λ xs. arms_shallow d (arms (map plain_arm xs))) (nat_lt d 100 && statements_shallow (d + 1) (plain_stmts x.body.items)) choices i x l e (ap (λ a. arms_shallow d (ArmOf a.labels a.body (arms (map plain_arm (drop (i + 1) choices))))) (arm_is x)) f

-- nothing is left once the loop has ended
pub all_written : {A : Type 0} (text : List A → List ℕ) (xs : List A) (i : ℕ) (out whole : List ℕ) → length xs ≤ i → text [] ≡ [] → out ++ text (drop i xs) ≡ whole → out ≡ whole
all_written text xs i out whole l t f = sym (append-nil out) ∙ ap (λ (o : List ℕ). out ++ o) (sym t ∙ ap text (sym (drop_all i xs l))) ∙ f

-- ---- how deep the parts of a statement stand

pub if_shallow : (d : ℕ) (s : Stmt) (c : Expr) (a b : Vec Stmt Global) → s ≡ S.If c a b → statement_shallow d (plain_stmt s) ≡ true → (statements_shallow (d + 1) (plain_stmts a.items) ≡ true) × ((nat_lt d 100 && statements_shallow (d + 1) (plain_stmts b.items)) ≡ true)
if_shallow d s c a b e h =
    let first : Bool = statements_shallow (d + 1) (plain_stmts a.items) in
    let second : Bool = statements_shallow (d + 1) (plain_stmts b.items) in
    let g : ((nat_lt d 100 && first) ≡ true) × (second ≡ true) = both (nat_lt d 100 && first) second (subst (λ x. statement_shallow d x ≡ true) (ap plain_stmt e ∙ plain_if c a b) h) in
    let k : (nat_lt d 100 ≡ true) × (first ≡ true) = both (nat_lt d 100) first g.0 in
    (k.1, and_from (nat_lt d 100) second k.0 g.1)

pub case_shallow : (d : ℕ) (s : Stmt) (x : Expr) (as' : Vec Arm Global) (o : Vec Stmt Global) → s ≡ S.Case x as' o → statement_shallow d (plain_stmt s) ≡ true → (arms_shallow (d + 1) (arms (map plain_arm as'.items)) ≡ true) × ((nat_lt (d + 1) 100 && statements_shallow (d + 2) (plain_stmts o.items)) ≡ true)
case_shallow d s x as' o e h =
    let first : Bool = arms_shallow (d + 1) (arms (map plain_arm as'.items)) in
    let second : Bool = statements_shallow (d + 2) (plain_stmts o.items) in
    let g : ((nat_lt d 100 && first && nat_lt (d + 1) 100) ≡ true) × (second ≡ true) = both (nat_lt d 100 && first && nat_lt (d + 1) 100) second (subst (λ y. statement_shallow d y ≡ true) (ap plain_stmt e ∙ plain_case x as' o) h) in
    let k : ((nat_lt d 100 && first) ≡ true) × (nat_lt (d + 1) 100 ≡ true) = both (nat_lt d 100 && first) (nat_lt (d + 1) 100) g.0 in
    ((both (nat_lt d 100) first k.0).1, and_from (nat_lt (d + 1) 100) second k.1 g.1)
