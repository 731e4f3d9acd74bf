use Rattle.std.proofs.Common.{◌≡◌, ℕ, ◌+◌, ◌<◌, List, [], ◌∷◌, map, length, drop, get_or, None, Vec, Global, refl, ap, sym, ◌∙◌}
use Rattle.std.proofs.lemmas.List.{at_drop_all}
use Rattle.bist_bits.specs.Vector.{Vector}
use Rattle.verilog_tree.specs.declared.tree.Expr.{Expr}
use Rattle.verilog_tree.specs.declared.tree.Stmt.{Stmt}
use Rattle.verilog_tree.specs.declared.tree.Stmt as S
use Rattle.verilog_tree.specs.declared.tree.Arm.{Arm}
use Rattle.verilog_tree.specs.Plain.{plain, plain_stmt, plain_stmts, arms, ArmTree}
use Rattle.verilog_tree.specs.inner.Plain.{plain_arm}
use Rattle.verilog_tree.specs.Meaning.{width}
use Rattle.verilog_tree.specs.Names.{width_of}
use Rattle.verilog_tree.specs.Rules.{first_of, expression_widths, label_widths, statement_widths, statements_widths, arms_widths}
use Rattle.verilog_tree.proofs.InOrder.{refuses_same, passed_on, past, second, third, at_item}
use Rattle.verilog_tree.proofs.Layers.{plain_set, plain_if, plain_case, arm_is}
use Rattle.verilog_tree.proofs.Refusals.{tells_now, tells_later}
use Rattle.verilog_tree.proofs.widths.+stmt_widths.Goals as goal

if_breaks : (w : List ℕ → ℕ) (s : Stmt) (x : Expr) (a b : Vec Stmt Global) → s ≡ S.If x a b → statement_widths w (plain_stmt s) ≡ first_of (expression_widths w (plain x) ∷ statements_widths w (plain_stmts a.items) ∷ statements_widths w (plain_stmts b.items) ∷ [])
if_breaks w s x a b is = ap (statement_widths w) (ap plain_stmt is ∙ plain_if x a b)

case_breaks : (w : List ℕ → ℕ) (s : Stmt) (x : Expr) (as' : Vec Arm Global) (d : Vec Stmt Global) → s ≡ S.Case x as' d → statement_widths w (plain_stmt s) ≡ first_of (expression_widths w (plain x) ∷ arms_widths w (width w (plain x)) (arms (map plain_arm as'.items)) ∷ statements_widths w (plain_stmts d.items) ∷ [])
case_breaks w s x as' d is = ap (statement_widths w) (ap plain_stmt is ∙ plain_case x as' d)

-- behind the subject, of k bits
past_subject : (w : List ℕ → ℕ) (s : Stmt) (x : Expr) (as' : Vec Arm Global) (d : Vec Stmt Global) (k : ℕ) (items left : List Arm) → s ≡ S.Case x as' d → (expression_widths w (plain x) ≡ None) × (k ≡ width w (plain x)) → items ≡ as'.items →
    arms_widths w k (arms (map plain_arm left)) ≡ arms_widths w k (arms (map plain_arm items)) →
    statement_widths w (plain_stmt s) ≡ first_of (arms_widths w k (arms (map plain_arm left)) ∷ statements_widths w (plain_stmts d.items) ∷ [])
past_subject w s x as' d k items left is h same so_far =
    case_breaks w s x as' d is
    ∙ past _ _ h.0
    ∙ ap (λ o. first_of (o ∷ statements_widths w (plain_stmts d.items) ∷ []))
    (ap (λ j. arms_widths w j (arms (map plain_arm as'.items))) (sym h.1) ∙ ap (λ l. arms_widths w k (arms (map plain_arm l))) (sym same) ∙ sym so_far)

at_arm : (w : List ℕ → ℕ) (k : ℕ) (items : List Arm) (i : ℕ) (a : Arm) (ls : List Vector) (ss : List Stmt) → i < length items → a ≡ get_or items i a → ls ≡ a.labels.items → ss ≡ a.body.items →
    arms_widths w k (arms (map plain_arm (drop i items))) ≡ first_of (label_widths k ls ∷ statements_widths w (plain_stmts ss) ∷ arms_widths w k (arms (map plain_arm (drop (i + 1) items))) ∷ [])
at_arm w k items i a ls ss below at e e' =
    at_item (λ as'. arms_widths w k (arms (map plain_arm as'))) items i a below at
    ∙ ap (λ (p : ArmTree). first_of (label_widths k p.labels ∷ statements_widths w p.body ∷ arms_widths w k (arms (map plain_arm (drop (i + 1) items))) ∷ [])) (arm_is a)
    ∙ rw (e, e') refl

pub stmt_widths-returns-in_err-_condition-in-If : goal.stmt_widths-returns-in_err-_condition-in-If
stmt_widths-returns-in_err-_condition-in-If t c =
    let f = c.in_err-_condition-in-If.field-0.0 in
    passed_on _ _ c.from_residual.result f c.from_residual.ensures
    (if_breaks (width_of c.args.names.now) c.args.s.now c.in-If.c c.in-If.a c.in-If.b c.in-If.is)
    (tells_now f _ _ c.in_err-_condition-in-If.ensures)

pub stmt_widths-returns-in_err-stmts_widths-in-If : goal.stmt_widths-returns-in_err-stmts_widths-in-If
stmt_widths-returns-in_err-stmts_widths-in-If t c =
    let w = width_of c.args.names.now in
    let f = c.in_err-stmts_widths-in-If.field-0.0 in
    passed_on _ _ c.from_residual-in_err-stmts_widths-in-If.result f c.from_residual-in_err-stmts_widths-in-If.ensures
    (if_breaks w c.args.s.now c.in-If.c c.in-If.a c.in-If.b c.in-If.is
    ∙ past _ _ c.in_ok-_condition-in-If.ensures.0
    ∙ ap (λ l. first_of (statements_widths w (plain_stmts l) ∷ statements_widths w (plain_stmts c.in-If.b.items) ∷ [])) (sym c.deref.ensures.value))
    (tells_now f _ _ c.in_err-stmts_widths-in-If.ensures)

pub stmt_widths-returns-in_ok-stmts_widths-in-If : goal.stmt_widths-returns-in_ok-stmts_widths-in-If
stmt_widths-returns-in_ok-stmts_widths-in-If t c =
    let w = width_of c.args.names.now in
    refuses_same _ _ c.stmts_widths-in-If.result
    (if_breaks w c.args.s.now c.in-If.c c.in-If.a c.in-If.b c.in-If.is
    ∙ third _ _ _ c.in_ok-_condition-in-If.ensures.0 (ap (λ l. statements_widths w (plain_stmts l)) (sym c.deref.ensures.value) ∙ c.in_ok-stmts_widths-in-If.ensures)
    ∙ ap (λ l. statements_widths w (plain_stmts l)) (sym c.deref-in-If.ensures.value))
    c.stmts_widths-in-If.ensures

pub stmt_widths-returns-in_err-subject-in-Case : goal.stmt_widths-returns-in_err-subject-in-Case
stmt_widths-returns-in_err-subject-in-Case t c =
    let f = c.in_err-subject-in-Case.field-0.0 in
    passed_on _ _ c.from_residual-in_err-subject-in-Case.result f c.from_residual-in_err-subject-in-Case.ensures
    (case_breaks (width_of c.args.names.now) c.args.s.now c.in-Case.x c.in-Case.choices c.in-Case.other c.in-Case.is)
    (tells_now f _ _ c.in_err-subject-in-Case.ensures)

pub stmt_widths-loop-arm-init : goal.stmt_widths-loop-arm-init
stmt_widths-loop-arm-init t c = refl

pub stmt_widths-returns-in-Set : goal.stmt_widths-returns-in-Set
stmt_widths-returns-in-Set t c =
    refuses_same _ _ c.assignment_widths.result (ap (statement_widths (width_of c.args.names.now)) (ap plain_stmt c.in-Set.is ∙ plain_set c.in-Set.name c.in-Set.x)) c.assignment_widths.ensures

pub stmts_widths-loop-s-init : goal.stmts_widths-loop-s-init
stmts_widths-loop-s-init t c = refl

pub stmts_widths-returns-in_err-stmt_widths : goal.stmts_widths-returns-in_err-stmt_widths
stmts_widths-returns-in_err-stmt_widths t c =
    let w = width_of c.args.names.now in
    let f = c.in_err-stmt_widths.field-0.0 in
    passed_on _ _ c.from_residual.result f c.from_residual.ensures
    (sym c.loop-s.invariant ∙ at_item (λ ss. statements_widths w (plain_stmts ss)) c.args.body.now c.loop-s.s-index c.s-item.result c.loop-s-test.true c.s-item.is)
    (tells_now f _ _ c.in_err-stmt_widths.ensures)

pub stmts_widths-loop-s-preserved : goal.stmts_widths-loop-s-preserved
stmts_widths-loop-s-preserved t c =
    let w = width_of c.args.names.now in
    sym (second _ _ c.in_ok-stmt_widths.ensures)
    ∙ sym (at_item (λ ss. statements_widths w (plain_stmts ss)) c.args.body.now c.loop-s.s-index c.s-item.result c.loop-s-test.true c.s-item.is)
    ∙ c.loop-s.invariant

pub stmts_widths-returns : goal.stmts_widths-returns
stmts_widths-returns t c = sym c.loop-s.invariant ∙ at_drop_all (λ ss. statements_widths (width_of c.args.names.now) (plain_stmts ss)) c.args.body.now c.loop-s.s-index c.loop-s-test.false

pub stmt_widths-returns-in_err-label_widths-in-Case : goal.stmt_widths-returns-in_err-label_widths-in-Case
stmt_widths-returns-in_err-label_widths-in-Case t c =
    let w = width_of c.args.names.now in
    let f = c.in_err-label_widths-in-Case.field-0.0 in
    let items = c.deref-arm-items.result.now in
    passed_on _ _ c.from_residual-in_err-label_widths-in-Case.result f c.from_residual-in_err-label_widths-in-Case.ensures
    (past_subject w c.args.s.now c.in-Case.x c.in-Case.choices c.in-Case.other c.in_ok-subject-in-Case.subject items (drop c.loop-arm.arm-index items) c.in-Case.is c.in_ok-subject-in-Case.ensures c.deref-arm-items.ensures.value c.loop-arm.invariant
    ∙ ap (λ o. first_of (o ∷ statements_widths w (plain_stmts c.in-Case.other.items) ∷ [])) (at_arm w c.in_ok-subject-in-Case.subject items c.loop-arm.arm-index c.arm-item.result _ _ c.loop-arm-test.true c.arm-item.is c.deref-in-loop-arm.ensures.value refl))
    (tells_now f _ _ (tells_now f _ _ c.in_err-label_widths-in-Case.ensures))

pub stmt_widths-returns-in_err-stmts_widths-in-Case : goal.stmt_widths-returns-in_err-stmts_widths-in-Case
stmt_widths-returns-in_err-stmts_widths-in-Case t c =
    let w = width_of c.args.names.now in
    let f = c.in_err-stmts_widths-in-Case.field-0.0 in
    let items = c.deref-arm-items.result.now in
    passed_on _ _ c.from_residual-in_err-stmts_widths-in-Case.result f c.from_residual-in_err-stmts_widths-in-Case.ensures
    (past_subject w c.args.s.now c.in-Case.x c.in-Case.choices c.in-Case.other c.in_ok-subject-in-Case.subject items (drop c.loop-arm.arm-index items) c.in-Case.is c.in_ok-subject-in-Case.ensures c.deref-arm-items.ensures.value c.loop-arm.invariant
    ∙ ap (λ o. first_of (o ∷ statements_widths w (plain_stmts c.in-Case.other.items) ∷ [])) (at_arm w c.in_ok-subject-in-Case.subject items c.loop-arm.arm-index c.arm-item.result _ _ c.loop-arm-test.true c.arm-item.is c.deref-in-loop-arm.ensures.value c.deref-in-loop-arm-2.ensures.value))
    (tells_now f _ _ (tells_later f _ _ c.in_ok-label_widths-in-Case.ensures (tells_now f _ _ c.in_err-stmts_widths-in-Case.ensures)))

pub stmt_widths-loop-arm-preserved : goal.stmt_widths-loop-arm-preserved
stmt_widths-loop-arm-preserved t c =
    sym (third _ _ _ c.in_ok-label_widths-in-Case.ensures c.in_ok-stmts_widths-in-Case.ensures)
    ∙ sym (at_arm (width_of c.args.names.now) c.in_ok-subject-in-Case.subject c.deref-arm-items.result.now c.loop-arm.arm-index c.arm-item.result _ _ c.loop-arm-test.true c.arm-item.is c.deref-in-loop-arm.ensures.value c.deref-in-loop-arm-2.ensures.value)
    ∙ c.loop-arm.invariant

pub stmt_widths-returns-after-loop-arm : goal.stmt_widths-returns-after-loop-arm
stmt_widths-returns-after-loop-arm t c =
    let w = width_of c.args.names.now in
    let k = c.in_ok-subject-in-Case.subject in
    let items = c.deref-arm-items.result.now in
    refuses_same _ _ c.stmts_widths-in-Case.result
    (past_subject w c.args.s.now c.in-Case.x c.in-Case.choices c.in-Case.other k items (drop c.loop-arm.arm-index items) c.in-Case.is c.in_ok-subject-in-Case.ensures c.deref-arm-items.ensures.value c.loop-arm.invariant
    ∙ second _ _ (at_drop_all (λ l. arms_widths w k (arms (map plain_arm l))) items c.loop-arm.arm-index c.loop-arm-test.false)
    ∙ ap (λ l. statements_widths w (plain_stmts l)) (sym c.deref-in-Case.ensures.value))
    c.stmts_widths-in-Case.ensures
