use Rattle.std.proofs.Common.{◌≡◌, ℕ, ◌+◌, ◌-◌, ◌<◌, Bool, true, false, ◌&&◌, List, map, length, drop, get_or, nat_lt, Vec, Global, refl, ap, sym, ◌∙◌}
use Rattle.std.proofs.lemmas.Bool.{lt-ltb, le-ltb}
use Rattle.std.proofs.lemmas.List.{at_drop_all}
use Rattle.verilog_tree.specs.declared.tree.Expr.{Expr}
use Rattle.verilog_tree.specs.declared.tree.Stmt.{Stmt}
use Rattle.verilog_tree.specs.declared.tree.Stmt as S
use Rattle.verilog_tree.specs.declared.tree.Arm.{Arm}
use Rattle.verilog_tree.specs.Plain.{plain, plain_stmt, plain_stmts, arms}
use Rattle.verilog_tree.specs.inner.Plain.{plain_arm}
use Rattle.verilog_tree.specs.Fits.{expression_fits, statement_fits, statements_fit, arms_fit}
use Rattle.verilog_tree.proofs.InOrder.{at_item, and_then, and_else}
use Rattle.verilog_tree.proofs.Layers.{plain_set, plain_if, plain_case, arm_body}
use Rattle.verilog_tree.proofs.layout.+stmt_fits.Goals.{stmt_fits-then-room-gt1, stmt_fits-else-room-gt1, stmt_fits-then-expr_fits, stmt_fits-else-expr_fits, stmt_fits-then-room-gt1-2, stmt_fits-else-room-gt1-2, stmt_fits-then-expr_fits-2, stmt_fits-else-expr_fits-2}
use Rattle.verilog_tree.proofs.layout.+stmt_fits.Goals as goal

-- the tests of an `if` and of a `case`, one behind another
if_fits : (room inner : ℕ) (s : Stmt) (x : Expr) (a b : Vec Stmt Global) (t u v : Bool) → s ≡ S.If x a b → inner ≡ room - 2 → t ≡ (nat_lt 1 room && expression_fits inner (plain x)) → u ≡ (t && statements_fit inner (plain_stmts a.items)) → v ≡ (u && statements_fit inner (plain_stmts b.items)) →
    v ≡ statement_fits room (plain_stmt s)
if_fits room inner s x a b t u v is less p q r = rw (r, q, p, less) (sym (ap (statement_fits room) (ap plain_stmt is ∙ plain_if x a b)))

case_fits : (room inner : ℕ) (s : Stmt) (x : Expr) (as' : Vec Arm Global) (d : Vec Stmt Global) (t u v : Bool) → s ≡ S.Case x as' d → inner ≡ room - 2 → t ≡ (nat_lt 1 room && expression_fits inner (plain x)) → u ≡ (t && arms_fit inner (arms (map plain_arm as'.items))) → v ≡ (u && statements_fit inner (plain_stmts d.items)) →
    v ≡ statement_fits room (plain_stmt s)
case_fits room inner s x as' d t u v is less p q r = rw (r, q, p, less) (sym (ap (statement_fits room) (ap plain_stmt is ∙ plain_case x as' d)))

-- a loop's tests at a statement and at an arm
at_stmt : (room : ℕ) (body : List Stmt) (i : ℕ) (s : Stmt) (b whole : Bool) → i < length body → s ≡ get_or body i s → b ≡ statement_fits room (plain_stmt s) → statements_fit room (plain_stmts (drop i body)) ≡ whole → (b && statements_fit room (plain_stmts (drop (i + 1) body))) ≡ whole
at_stmt room body i s b whole below at e so_far = ap (λ t. t && statements_fit room (plain_stmts (drop (i + 1) body))) e ∙ sym (at_item (λ ss. statements_fit room (plain_stmts ss)) body i s below at) ∙ so_far

at_arm : (room : ℕ) (choices : List Arm) (i : ℕ) (a : Arm) (ss : List Stmt) (b whole : Bool) → i < length choices → a ≡ get_or choices i a → ss ≡ a.body.items → b ≡ statements_fit room (plain_stmts ss) → arms_fit room (arms (map plain_arm (drop i choices))) ≡ whole →
    (b && arms_fit room (arms (map plain_arm (drop (i + 1) choices)))) ≡ whole
at_arm room choices i a ss b whole below at same e so_far =
    ap (λ t. t && arms_fit room (arms (map plain_arm (drop (i + 1) choices)))) (e ∙ ap (λ l. statements_fit room (plain_stmts l)) same ∙ ap (statements_fit room) (sym (arm_body a)))
    ∙ sym (at_item (λ as'. arms_fit room (arms (map plain_arm as'))) choices i a below at)
    ∙ so_far

pub stmt_fits-returns-then-is_name : goal.stmt_fits-returns-then-is_name
stmt_fits-returns-then-is_name t c =
    and_then _ _ _ (sym c.if-is_name.ensures) c.expr_fits.ensures ∙ sym (ap (statement_fits c.args.room) (ap plain_stmt c.in-Set.is ∙ plain_set c.in-Set.name c.in-Set.x))

pub stmt_fits-returns-else-is_name : goal.stmt_fits-returns-else-is_name
stmt_fits-returns-else-is_name t c =
    c.is_name.ensures ∙ and_else _ _ _ (sym c.if-is_name.ensures) refl ∙ sym (ap (statement_fits c.args.room) (ap plain_stmt c.in-Set.is ∙ plain_set c.in-Set.name c.in-Set.x))

pub stmt_fits-returns-then-stmts_fit : goal.stmt_fits-returns-then-stmts_fit
stmt_fits-returns-then-stmts_fit t c =
    let inner = c.saturating_sub-inner.result in
    if_fits c.args.room inner c.args.s.now c.in-If.c c.in-If.a c.in-If.b c.if-room-gt1.value c.if-expr_fits.value c.stmts_fit-then-stmts_fit.result c.in-If.is c.saturating_sub-inner.ensures
    (elim c.if-room-gt1.branch [
      | stmt_fits-then-room-gt1 w ↦ and_then _ _ _ (lt-ltb 1 _ w.if-room-gt1.true) (w.value-is ∙ w.expr_fits-then-room-gt1.ensures)
      | stmt_fits-else-room-gt1 w ↦ and_else _ _ _ (le-ltb 1 _ w.if-room-gt1.false) w.value-is
    ])
    (elim c.if-expr_fits.branch [
      | stmt_fits-then-expr_fits w ↦ and_then _ _ _ w.if-expr_fits.true (w.value-is ∙ w.stmts_fit.ensures ∙ ap (λ l. statements_fit inner (plain_stmts l)) w.deref.ensures.value)
      | stmt_fits-else-expr_fits w ↦ and_else _ _ _ w.if-expr_fits.false w.value-is
    ])
    (and_then _ _ _ c.if-stmts_fit.true (c.stmts_fit-then-stmts_fit.ensures ∙ ap (λ l. statements_fit inner (plain_stmts l)) c.deref-then-stmts_fit.ensures.value))

pub stmt_fits-returns-else-stmts_fit : goal.stmt_fits-returns-else-stmts_fit
stmt_fits-returns-else-stmts_fit t c =
    let inner = c.saturating_sub-inner.result in
    if_fits c.args.room inner c.args.s.now c.in-If.c c.in-If.a c.in-If.b c.if-room-gt1.value c.if-expr_fits.value c.if-expr_fits.value c.in-If.is c.saturating_sub-inner.ensures
    (elim c.if-room-gt1.branch [
      | stmt_fits-then-room-gt1 w ↦ and_then _ _ _ (lt-ltb 1 _ w.if-room-gt1.true) (w.value-is ∙ w.expr_fits-then-room-gt1.ensures)
      | stmt_fits-else-room-gt1 w ↦ and_else _ _ _ (le-ltb 1 _ w.if-room-gt1.false) w.value-is
    ])
    (elim c.if-expr_fits.branch [
      | stmt_fits-then-expr_fits w ↦ and_then _ _ _ w.if-expr_fits.true (w.value-is ∙ w.stmts_fit.ensures ∙ ap (λ l. statements_fit inner (plain_stmts l)) w.deref.ensures.value)
      | stmt_fits-else-expr_fits w ↦ and_else _ _ _ w.if-expr_fits.false w.value-is
    ])
    (and_else _ _ _ c.if-stmts_fit.false refl)

pub stmt_fits-returns-then-arms_fit : goal.stmt_fits-returns-then-arms_fit
stmt_fits-returns-then-arms_fit t c =
    let inner = c.saturating_sub-inner.result in
    case_fits c.args.room inner c.args.s.now c.in-Case.x c.in-Case.choices c.in-Case.other c.if-room-gt1-2.value c.if-expr_fits-2.value c.stmts_fit-then-arms_fit.result c.in-Case.is c.saturating_sub-inner.ensures
    (elim c.if-room-gt1-2.branch [
      | stmt_fits-then-room-gt1-2 w ↦ and_then _ _ _ (lt-ltb 1 _ w.if-room-gt1-2.true) (w.value-is ∙ w.expr_fits-then-room-gt1-2.ensures)
      | stmt_fits-else-room-gt1-2 w ↦ and_else _ _ _ (le-ltb 1 _ w.if-room-gt1-2.false) w.value-is
    ])
    (elim c.if-expr_fits-2.branch [
      | stmt_fits-then-expr_fits-2 w ↦ and_then _ _ _ w.if-expr_fits-2.true (w.value-is ∙ w.arms_fit.ensures ∙ ap (λ l. arms_fit inner (arms (map plain_arm l))) w.deref-then-expr_fits-2.ensures.value)
      | stmt_fits-else-expr_fits-2 w ↦ and_else _ _ _ w.if-expr_fits-2.false w.value-is
    ])
    (and_then _ _ _ c.if-arms_fit.true (c.stmts_fit-then-arms_fit.ensures ∙ ap (λ l. statements_fit inner (plain_stmts l)) c.deref-then-arms_fit.ensures.value))

pub stmt_fits-returns-else-arms_fit : goal.stmt_fits-returns-else-arms_fit
stmt_fits-returns-else-arms_fit t c =
    let inner = c.saturating_sub-inner.result in
    case_fits c.args.room inner c.args.s.now c.in-Case.x c.in-Case.choices c.in-Case.other c.if-room-gt1-2.value c.if-expr_fits-2.value c.if-expr_fits-2.value c.in-Case.is c.saturating_sub-inner.ensures
    (elim c.if-room-gt1-2.branch [
      | stmt_fits-then-room-gt1-2 w ↦ and_then _ _ _ (lt-ltb 1 _ w.if-room-gt1-2.true) (w.value-is ∙ w.expr_fits-then-room-gt1-2.ensures)
      | stmt_fits-else-room-gt1-2 w ↦ and_else _ _ _ (le-ltb 1 _ w.if-room-gt1-2.false) w.value-is
    ])
    (elim c.if-expr_fits-2.branch [
      | stmt_fits-then-expr_fits-2 w ↦ and_then _ _ _ w.if-expr_fits-2.true (w.value-is ∙ w.arms_fit.ensures ∙ ap (λ l. arms_fit inner (arms (map plain_arm l))) w.deref-then-expr_fits-2.ensures.value)
      | stmt_fits-else-expr_fits-2 w ↦ and_else _ _ _ w.if-expr_fits-2.false w.value-is
    ])
    (and_else _ _ _ c.if-arms_fit.false refl)

pub stmts_fit-loop-s-init : goal.stmts_fit-loop-s-init
stmts_fit-loop-s-init t c = refl

pub stmts_fit-returns-then-not-stmt_fits : goal.stmts_fit-returns-then-not-stmt_fits
stmts_fit-returns-then-not-stmt_fits t c = at_stmt c.args.room c.args.body.now c.loop-s.s-index c.s-item.result false _ c.loop-s-test.true c.s-item.is c.if-not-stmt_fits.ensures c.loop-s.invariant

pub stmts_fit-loop-s-preserved : goal.stmts_fit-loop-s-preserved
stmts_fit-loop-s-preserved t c = at_stmt c.args.room c.args.body.now c.loop-s.s-index c.s-item.result true _ c.loop-s-test.true c.s-item.is c.if-not-stmt_fits.ensures c.loop-s.invariant

pub stmts_fit-returns : goal.stmts_fit-returns
stmts_fit-returns t c = sym (at_drop_all (λ ss. statements_fit c.args.room (plain_stmts ss)) c.args.body.now c.loop-s.s-index c.loop-s-test.false) ∙ c.loop-s.invariant

pub arms_fit-loop-arm-init : goal.arms_fit-loop-arm-init
arms_fit-loop-arm-init t c = refl

pub arms_fit-returns-then-not-stmts_fit : goal.arms_fit-returns-then-not-stmts_fit
arms_fit-returns-then-not-stmts_fit t c = at_arm c.args.room c.args.choices.now c.loop-arm.arm-index c.arm-item.result _ false _ c.loop-arm-test.true c.arm-item.is c.deref.ensures.value c.if-not-stmts_fit.ensures c.loop-arm.invariant

pub arms_fit-loop-arm-preserved : goal.arms_fit-loop-arm-preserved
arms_fit-loop-arm-preserved t c = at_arm c.args.room c.args.choices.now c.loop-arm.arm-index c.arm-item.result _ true _ c.loop-arm-test.true c.arm-item.is c.deref.ensures.value c.if-not-stmts_fit.ensures c.loop-arm.invariant

pub arms_fit-returns : goal.arms_fit-returns
arms_fit-returns t c = sym (at_drop_all (λ as'. arms_fit c.args.room (arms (map plain_arm as'))) c.args.choices.now c.loop-arm.arm-index c.loop-arm-test.false) ∙ c.loop-arm.invariant
