-- The trees of expressions and statements, by their outermost part.
use Rattle.std.proofs.Common.{◌≡◌, List, map, Vec, Box, Global, sym, ap, ◌∙◌}
use Rattle.arrayvec.specs.ArrayString.{ArrayString}
use Rattle.verilog_tree.specs.declared.tree.BinOp.{BinOp}
use Rattle.verilog_tree.specs.declared.tree.UnOp.{UnOp}
use Rattle.verilog_tree.specs.declared.tree.Expr.{Expr}
use Rattle.verilog_tree.specs.declared.tree.Expr as E
use Rattle.verilog_tree.specs.declared.tree.Stmt.{Stmt}
use Rattle.verilog_tree.specs.declared.tree.Stmt as S
use Rattle.verilog_tree.specs.declared.tree.Arm.{Arm}
use Rattle.verilog_tree.specs.Plain.{plain, plain_stmt, plain_stmts, expressions, arms, Concatenation, Prefixed, Infixed, Conditional, SetTo, IfElse, CaseOf}
use Rattle.verilog_tree.specs.inner.Plain.{plain_arm}

pub plain_concat : (xs : Vec Expr Global) → plain (E.Concat xs) ≡ Concatenation (expressions (map plain xs.items))
plain_concat xs = search E.the_lemmas

pub plain_unary : (o : UnOp) (x : Box Expr Global) → plain (E.Unary o x) ≡ Prefixed o (plain x.value)
plain_unary o x = search E.the_lemmas

pub plain_binary : (o : BinOp) (x y : Box Expr Global) → plain (E.Binary o x y) ≡ Infixed o (plain x.value) (plain y.value)
plain_binary o x y = search E.the_lemmas

pub plain_choose : (c x y : Box Expr Global) → plain (E.Choose c x y) ≡ Conditional (plain c.value) (plain x.value) (plain y.value)
plain_choose c x y = search E.the_lemmas

-- the same of an expression that is matched, with its parts as they are read
pub concat_read : (xs : Vec Expr Global) {e : Expr} {ps : List Expr} → e ≡ E.Concat xs → ps ≡ xs.items → plain e ≡ Concatenation (expressions (map plain ps))
concat_read xs i p = ap plain i ∙ plain_concat xs ∙ ap (λ l. Concatenation (expressions (map plain l))) (sym p)

pub unary_read : (o : UnOp) (x : Box Expr Global) {e p : Expr} → e ≡ E.Unary o x → p ≡ x.value → plain e ≡ Prefixed o (plain p)
unary_read o x i h = ap plain i ∙ plain_unary o x ∙ ap (λ z. Prefixed o (plain z)) (sym h)

pub binary_read : (o : BinOp) (x y : Box Expr Global) {e p q : Expr} → e ≡ E.Binary o x y → p ≡ x.value → q ≡ y.value → plain e ≡ Infixed o (plain p) (plain q)
binary_read o x y {e} {p} i h k = ap plain i ∙ plain_binary o x y ∙ ap (λ z. Infixed o (plain z) (plain y.value)) (sym h) ∙ ap (λ z. Infixed o (plain p) (plain z)) (sym k)

pub choose_read : (c x y : Box Expr Global) {e b p q : Expr} → e ≡ E.Choose c x y → b ≡ c.value → p ≡ x.value → q ≡ y.value → plain e ≡ Conditional (plain b) (plain p) (plain q)
choose_read c x y {e} {b} {p} i g h k =
    ap plain i
    ∙ plain_choose c x y
    ∙ ap (λ z. Conditional (plain z) (plain x.value) (plain y.value)) (sym g)
    ∙ ap (λ z. Conditional (plain b) (plain z) (plain y.value)) (sym h)
    ∙ ap (λ z. Conditional (plain b) (plain p) (plain z)) (sym k)

pub plain_set : (n : ArrayString) (x : Expr) → plain_stmt (S.Set n x) ≡ SetTo n.bytes (plain x)
plain_set n x = search S.the_lemmas

pub plain_if : (c : Expr) (a b : Vec Stmt Global) → plain_stmt (S.If c a b) ≡ IfElse (plain c) (plain_stmts a.items) (plain_stmts b.items)
plain_if c a b = search S.the_lemmas

pub plain_case : (x : Expr) (as' : Vec Arm Global) (d : Vec Stmt Global) → plain_stmt (S.Case x as' d) ≡ CaseOf (plain x) (arms (map plain_arm as'.items)) (plain_stmts d.items)
plain_case x as' d = search S.the_lemmas

pub arm_is : (a : Arm) → plain_arm a ≡ record { labels = a.labels.items; body = plain_stmts a.body.items }
arm_is a = search S.the_lemmas

pub arm_body : (a : Arm) → (plain_arm a).body ≡ plain_stmts a.body.items
arm_body a = search S.the_lemmas
