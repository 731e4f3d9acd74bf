use Rattle.std.proofs.Common.{◌≡◌, ℕ, ◌+◌, ◌<◌, Bool, true, false, not, ◌&&◌, List, map, length, drop, get_or, Vec, Global, refl, ap, sym, ◌∙◌}
use Rattle.std.proofs.lemmas.Bool.{and_right}
use Rattle.std.proofs.lemmas.List.{at_drop_all}
use Rattle.std.proofs.Math.Bool.{and-true, and_assoc}
use Rattle.verilog_tree.specs.declared.tree.Expr.{Expr}
use Rattle.verilog_tree.specs.declared.tree.Stmt.{Stmt}
use Rattle.verilog_tree.specs.declared.tree.Stmt as S
use Rattle.verilog_tree.specs.declared.tree.Arm.{Arm}
use Rattle.verilog_tree.specs.Plain.{plain, plain_stmt, plain_stmts, arms, ArmTree}
use Rattle.verilog_tree.specs.inner.Plain.{plain_arm}
use Rattle.verilog_tree.specs.Formed.{expression_formed, has_label, labels_formed, has_arm, arms_formed, statement_formed, statements_formed}
use Rattle.verilog_tree.proofs.InOrder.{at_item, and_then, and_else}
use Rattle.verilog_tree.proofs.Layers.{plain_set, plain_if, plain_case, arm_is}
use Rattle.verilog_tree.proofs.Lists.{some_arm}
use Rattle.verilog_tree.proofs.sizes.+stmt_formed.Goals.{stmt_formed-then-expr_formed, stmt_formed-else-expr_formed, stmt_formed-then-expr_formed-2, stmt_formed-else-expr_formed-2, arms_formed-then-labels_formed, arms_formed-else-labels_formed}
use Rattle.verilog_tree.proofs.sizes.+stmt_formed.Goals as goal

-- the tests of an `if` and of a `case`, one behind another
if_formed : (s : Stmt) (x : Expr) (a b : Vec Stmt Global) (t u v : Bool) → s ≡ S.If x a b → t ≡ expression_formed (plain x) → u ≡ (t && statements_formed (plain_stmts a.items)) → v ≡ (u && statements_formed (plain_stmts b.items)) → v ≡ statement_formed (plain_stmt s)
if_formed s x a b t u v is p q r = rw (r, q, p) (sym (ap statement_formed (ap plain_stmt is ∙ plain_if x a b)))

case_formed : (s : Stmt) (x : Expr) (as' : Vec Arm Global) (d : Vec Stmt Global) (t u v : Bool) → s ≡ S.Case x as' d → t ≡ expression_formed (plain x) → u ≡ (t && (has_arm (arms (map plain_arm as'.items)) && arms_formed (arms (map plain_arm as'.items)))) → v ≡ (u && statements_formed (plain_stmts d.items)) →
    v ≡ statement_formed (plain_stmt s)
case_formed s x as' d t u v is p q r =
    let trees = arms (map plain_arm as'.items) in
    rw (r, q, p) (ap (λ b. b && statements_formed (plain_stmts d.items)) (sym (and_assoc (expression_formed (plain x)) (has_arm trees) (arms_formed trees))) ∙ sym (ap statement_formed (ap plain_stmt is ∙ plain_case x as' d)))

-- a loop's tests at a statement and at an arm
at_stmt : (body : List Stmt) (i : ℕ) (s : Stmt) (b whole : Bool) → i < length body → s ≡ get_or body i s → b ≡ statement_formed (plain_stmt s) → whole ≡ statements_formed (plain_stmts (drop i body)) → whole ≡ (b && statements_formed (plain_stmts (drop (i + 1) body)))
at_stmt body i s b whole below at e so_far = so_far ∙ at_item (λ ss. statements_formed (plain_stmts ss)) body i s below at ∙ ap (λ t. t && statements_formed (plain_stmts (drop (i + 1) body))) (sym e)

at_arm : (choices : List Arm) (i : ℕ) (a : Arm) (t b whole : Bool) → i < length choices → a ≡ get_or choices i a → t ≡ (has_label a.labels.items && labels_formed a.labels.items) → b ≡ (t && statements_formed (plain_stmts a.body.items)) → whole ≡ arms_formed (arms (map plain_arm (drop i choices))) →
    whole ≡ (b && arms_formed (arms (map plain_arm (drop (i + 1) choices))))
at_arm choices i a t b whole below at p q so_far =
    let rest = arms_formed (arms (map plain_arm (drop (i + 1) choices))) in
    so_far
    ∙ at_item (λ as'. arms_formed (arms (map plain_arm as'))) choices i a below at
    ∙ ap (λ (k : ArmTree). has_label k.labels && labels_formed k.labels && statements_formed k.body && rest) (arm_is a)
    ∙ rw (q, p) refl

pub stmt_formed-returns-in-Set : goal.stmt_formed-returns-in-Set
stmt_formed-returns-in-Set t c = c.expr_formed.ensures ∙ sym (ap statement_formed (ap plain_stmt c.in-Set.is ∙ plain_set c.in-Set.field-0 c.in-Set.x))

pub stmt_formed-returns-then-stmts_formed : goal.stmt_formed-returns-then-stmts_formed
stmt_formed-returns-then-stmts_formed t c =
    if_formed c.args.s.now c.in-If.c c.in-If.a c.in-If.b c.expr_formed-in-If.result c.if-expr_formed.value c.stmts_formed-then-stmts_formed.result c.in-If.is c.expr_formed-in-If.ensures
    (elim c.if-expr_formed.branch [
      | stmt_formed-then-expr_formed w ↦ and_then _ _ _ w.if-expr_formed.true (w.value-is ∙ w.stmts_formed.ensures ∙ ap (λ l. statements_formed (plain_stmts l)) w.deref.ensures.value)
      | stmt_formed-else-expr_formed w ↦ and_else _ _ _ w.if-expr_formed.false w.value-is
    ])
    (and_then _ _ _ c.if-stmts_formed.true (c.stmts_formed-then-stmts_formed.ensures ∙ ap (λ l. statements_formed (plain_stmts l)) c.deref-then-stmts_formed.ensures.value))

pub stmt_formed-returns-else-stmts_formed : goal.stmt_formed-returns-else-stmts_formed
stmt_formed-returns-else-stmts_formed t c =
    if_formed c.args.s.now c.in-If.c c.in-If.a c.in-If.b c.expr_formed-in-If.result c.if-expr_formed.value c.if-expr_formed.value c.in-If.is c.expr_formed-in-If.ensures
    (elim c.if-expr_formed.branch [
      | stmt_formed-then-expr_formed w ↦ and_then _ _ _ w.if-expr_formed.true (w.value-is ∙ w.stmts_formed.ensures ∙ ap (λ l. statements_formed (plain_stmts l)) w.deref.ensures.value)
      | stmt_formed-else-expr_formed w ↦ and_else _ _ _ w.if-expr_formed.false w.value-is
    ])
    (and_else _ _ _ c.if-stmts_formed.false refl)

pub stmt_formed-returns-then-arms_formed : goal.stmt_formed-returns-then-arms_formed
stmt_formed-returns-then-arms_formed t c =
    case_formed c.args.s.now c.in-Case.x c.in-Case.choices c.in-Case.other c.expr_formed-in-Case.result c.if-expr_formed-2.value c.stmts_formed-then-arms_formed.result c.in-Case.is c.expr_formed-in-Case.ensures
    (elim c.if-expr_formed-2.branch [
      | stmt_formed-then-expr_formed-2 w ↦ and_then _ _ _ w.if-expr_formed-2.true (w.value-is ∙ w.arms_formed.ensures ∙ ap (λ l. has_arm (arms (map plain_arm l)) && arms_formed (arms (map plain_arm l))) w.deref-then-expr_formed-2.ensures.value)
      | stmt_formed-else-expr_formed-2 w ↦ and_else _ _ _ w.if-expr_formed-2.false w.value-is
    ])
    (and_then _ _ _ c.if-arms_formed.true (c.stmts_formed-then-arms_formed.ensures ∙ ap (λ l. statements_formed (plain_stmts l)) c.deref-then-arms_formed.ensures.value))

pub stmt_formed-returns-else-arms_formed : goal.stmt_formed-returns-else-arms_formed
stmt_formed-returns-else-arms_formed t c =
    case_formed c.args.s.now c.in-Case.x c.in-Case.choices c.in-Case.other c.expr_formed-in-Case.result c.if-expr_formed-2.value c.if-expr_formed-2.value c.in-Case.is c.expr_formed-in-Case.ensures
    (elim c.if-expr_formed-2.branch [
      | stmt_formed-then-expr_formed-2 w ↦ and_then _ _ _ w.if-expr_formed-2.true (w.value-is ∙ w.arms_formed.ensures ∙ ap (λ l. has_arm (arms (map plain_arm l)) && arms_formed (arms (map plain_arm l))) w.deref-then-expr_formed-2.ensures.value)
      | stmt_formed-else-expr_formed-2 w ↦ and_else _ _ _ w.if-expr_formed-2.false w.value-is
    ])
    (and_else _ _ _ c.if-arms_formed.false refl)

pub stmts_formed-loop-s-init : goal.stmts_formed-loop-s-init
stmts_formed-loop-s-init t c = refl

pub stmts_formed-returns-then-not-stmt_formed : goal.stmts_formed-returns-then-not-stmt_formed
stmts_formed-returns-then-not-stmt_formed t c = sym (at_stmt c.args.body.now c.loop-s.s-index c.s-item.result false _ c.loop-s-test.true c.s-item.is c.if-not-stmt_formed.ensures c.loop-s.invariant)

pub stmts_formed-loop-s-preserved : goal.stmts_formed-loop-s-preserved
stmts_formed-loop-s-preserved t c = at_stmt c.args.body.now c.loop-s.s-index c.s-item.result true _ c.loop-s-test.true c.s-item.is c.if-not-stmt_formed.ensures c.loop-s.invariant

pub stmts_formed-returns : goal.stmts_formed-returns
stmts_formed-returns t c = sym (c.loop-s.invariant ∙ at_drop_all (λ ss. statements_formed (plain_stmts ss)) c.args.body.now c.loop-s.s-index c.loop-s-test.false)

pub arms_formed-loop-arm-init : goal.arms_formed-loop-arm-init
arms_formed-loop-arm-init t c = refl

pub arms_formed-returns-then-not-stmts_formed : goal.arms_formed-returns-then-not-stmts_formed
arms_formed-returns-then-not-stmts_formed t c =
    sym (and_right _ _ (at_arm c.args.choices.now c.loop-arm.arm-index c.arm-item.result c.labels_formed.result false _ c.loop-arm-test.true c.arm-item.is (c.labels_formed.ensures ∙ ap (λ l. has_label l && labels_formed l) c.deref.ensures.value)
    (sym c.if-not-stmts_formed.true ∙ elim c.if-labels_formed.branch [
      | arms_formed-then-labels_formed w ↦ and_then _ _ _ w.if-labels_formed.true (w.value-is ∙ w.stmts_formed.ensures ∙ ap (λ l. statements_formed (plain_stmts l)) w.deref-then-labels_formed.ensures.value)
      | arms_formed-else-labels_formed w ↦ and_else _ _ _ w.if-labels_formed.false w.value-is
    ])
    c.loop-arm.invariant))

pub arms_formed-loop-arm-preserved : goal.arms_formed-loop-arm-preserved
arms_formed-loop-arm-preserved t c =
    at_arm c.args.choices.now c.loop-arm.arm-index c.arm-item.result c.labels_formed.result true _ c.loop-arm-test.true c.arm-item.is (c.labels_formed.ensures ∙ ap (λ l. has_label l && labels_formed l) c.deref.ensures.value)
    (sym c.if-not-stmts_formed.false ∙ elim c.if-labels_formed.branch [
      | arms_formed-then-labels_formed w ↦ and_then _ _ _ w.if-labels_formed.true (w.value-is ∙ w.stmts_formed.ensures ∙ ap (λ l. statements_formed (plain_stmts l)) w.deref-then-labels_formed.ensures.value)
      | arms_formed-else-labels_formed w ↦ and_else _ _ _ w.if-labels_formed.false w.value-is
    ])
    c.loop-arm.invariant

pub arms_formed-returns : goal.arms_formed-returns
arms_formed-returns t c =
    let trees = arms (map plain_arm c.args.choices.now) in
    ap not c.is_empty.ensures
    ∙ sym (some_arm c.args.choices.now)
    ∙ sym (and-true (has_arm trees))
    ∙ ap (λ b. has_arm trees && b) (sym (c.loop-arm.invariant ∙ at_drop_all (λ as'. arms_formed (arms (map plain_arm as'))) c.args.choices.now c.loop-arm.arm-index c.loop-arm-test.false))
