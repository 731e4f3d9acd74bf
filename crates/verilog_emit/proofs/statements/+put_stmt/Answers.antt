use Rattle.std.proofs.Common.{rules, ◌≡◌, ℕ, Bool, ◌&&◌, Fits, w8, arith, ltb-true, List, ◌+◌, ◌++◌, nat_lt, codes, map, drop, true, refl, ap}
use Rattle.std.proofs.lemmas.Result.{on_ok_weaker}
use Rattle.verilog_tree.specs.Plain.{ArmOf, plain, plain_stmt, plain_stmts, arms}
use Rattle.verilog_tree.specs.inner.Plain.{plain_arm}
use Rattle.verilog_tree.specs.declared.tree.Arm.{Arm}
use Rattle.verilog_tree.specs.declared.tree.Stmt.{Stmt}
use Rattle.verilog_tree.specs.declared.tree.Stmt as S
use Rattle.verilog_emit.specs.Printed.{line, expression_text, labels_text, statement_text, statements_text, arms_text}
use Rattle.verilog_emit.specs.inner.Printed.{else_text, default_text}
use Rattle.verilog_emit.specs.inner.Shallow.{statement_shallow, statements_shallow}
use Rattle.verilog_emit.proofs.Bodies.{begun_body, ended_body, three_parts, four_parts, told, one_written, one_left, arm_left, if_shallow, case_shallow, all_written}
use Rattle.verilog_emit.proofs.Pieces.{both}
use Rattle.verilog_tree.proofs.Layers.{plain_set, plain_if, plain_case, arm_is}
use Rattle.verilog_emit.proofs.statements.+put_stmt.Goals as goal

-- a line that is not too deep has room for a deeper one
deeper : (d : ℕ) (b : Bool) → (nat_lt d 100 && b) ≡ true → Fits w8 (d + 1)
deeper d b e = omega (arith, ltb-true d 100 (both (nat_lt d 100) b e).0)

pub put_default-returns : goal.put_default-returns
put_default-returns t c =
    let depth = c.args.depth in
    let body = c.args.body.now in
    on_ok_weaker c.put_line-2.result
    (ended_body c.args.out.now.items c.put_line.new.out.items c.put_stmts.new.out.items c.put_line-2.new.out.items (line (depth + 1) (codes "default: begin")) (statements_text (depth + 2) (plain_stmts body)) (line (depth + 1) (codes "end")) body
    c.if-is_empty.ensures c.in_ok-put_line.ensures c.in_ok-put_stmts.ensures) c.put_line-2.ensures

pub put_else-returns : goal.put_else-returns
put_else-returns t c =
    let depth = c.args.depth in
    let body = c.args.body.now in
    on_ok_weaker c.put_stmts.result
    (begun_body c.args.out.now.items c.put_line.new.out.items c.put_stmts.new.out.items (line depth (codes "end else begin")) (statements_text (depth + 1) (plain_stmts body)) body c.if-is_empty.ensures c.in_ok-put_line.ensures)
    c.put_stmts.ensures

pub put_arms-loop-arm-init : goal.put_arms-loop-arm-init
put_arms-loop-arm-init t c = record { text = refl; shallow = c.requires }

pub put_arms-loop-arm-preserved : goal.put_arms-loop-arm-preserved
put_arms-loop-arm-preserved t c =
    let choices = c.args.choices.now in
    let i = c.loop-arm.arm-index in
    let x = c.arm-item.result in
    let d = c.args.depth in
    let text = λ (xs : List Arm). arms_text d (arms (map plain_arm xs)) in
    let begin = line d (labels_text true x.labels.items ++ codes ": begin") in
    let body = statements_text (d + 1) (plain_stmts x.body.items) in
    let end = line d (codes "end") in
    record {
      text = one_written text text (begin ++ body ++ end) choices i x c.loop-arm.out.items c.put_line.new.out.items (c.args.out.now.items ++ text choices) c.loop-arm-test.true c.arm-item.is (ap (λ a. arms_text d (ArmOf a.labels a.body (arms (map plain_arm (drop (i + 1) choices))))) (arm_is x)) c.loop-arm.invariant.text
          (three_parts c.loop-arm.out.items c.put_arm_line.new.out.items c.put_stmts.new.out.items c.put_line.new.out.items begin body end (rw c.deref.ensures.value at c.in_ok-put_arm_line.ensures) (rw c.deref-in-loop-arm.ensures.value at c.in_ok-put_stmts.ensures) c.in_ok-put_line.ensures);
      shallow = (arm_left d choices i x c.loop-arm-test.true c.arm-item.is c.loop-arm.invariant.shallow).1;
    }

pub put_arms-returns : goal.put_arms-returns
put_arms-returns t c =
    let choices = c.args.choices.now in
    let text = λ (xs : List Arm). arms_text c.args.depth (arms (map plain_arm xs)) in
    all_written text choices c.loop-arm.arm-index c.loop-arm.out.items (c.args.out.now.items ++ text choices) c.loop-arm-test.false refl c.loop-arm.invariant.text

pub put_stmts-loop-s-init : goal.put_stmts-loop-s-init
put_stmts-loop-s-init t c = record { text = refl; shallow = c.requires }

pub put_stmts-loop-s-preserved : goal.put_stmts-loop-s-preserved
put_stmts-loop-s-preserved t c =
    let body = c.args.body.now in
    let i = c.loop-s.s-index in
    let x = c.s-item.result in
    let d = c.args.depth in
    let text = λ (xs : List Stmt). statements_text d (plain_stmts xs) in
    record {
      text = one_written text text (statement_text d (plain_stmt x)) body i x c.loop-s.out.items c.put_stmt.new.out.items (c.args.out.now.items ++ text body) c.loop-s-test.true c.s-item.is refl c.loop-s.invariant.text c.in_ok-put_stmt.ensures;
      shallow = (one_left (λ xs. statements_shallow d (plain_stmts xs)) (statement_shallow d (plain_stmt x)) body i x c.loop-s-test.true c.s-item.is refl c.loop-s.invariant.shallow).1;
    }

pub put_stmts-returns : goal.put_stmts-returns
put_stmts-returns t c =
    let body = c.args.body.now in
    let text = λ (xs : List Stmt). statements_text c.args.depth (plain_stmts xs) in
    all_written text body c.loop-s.s-index c.loop-s.out.items (c.args.out.now.items ++ text body) c.loop-s-test.false refl c.loop-s.invariant.text

pub put_stmt-returns-in_ok-put_else-in-If : goal.put_stmt-returns-in_ok-put_else-in-If
put_stmt-returns-in_ok-put_else-in-If t c =
    let d = c.args.depth in
    told plain_stmt (statement_text d) c.args.s.now _ _ c.in-If.is (plain_if c.in-If.c c.in-If.a c.in-If.b) c.put_line.result c.args.out.now.items c.put_line.new.out.items
    (on_ok_weaker c.put_line.result
    (four_parts c.args.out.now.items c.put_expr_line.new.out.items c.put_stmts.new.out.items c.put_else.new.out.items c.put_line.new.out.items
    (line d (codes "if (" ++ expression_text (plain c.in-If.c) ++ codes ") begin")) (statements_text (d + 1) (plain_stmts c.in-If.a.items)) (else_text d (plain_stmts c.in-If.b.items)) (line d (codes "end"))
    c.in_ok-put_expr_line-in-If.ensures (rw c.deref.ensures.value at c.in_ok-put_stmts-in-If.ensures) (rw c.deref-in-If.ensures.value at c.in_ok-put_else-in-If.ensures)) c.put_line.ensures)

pub put_stmt-returns-in_ok-put_default-in-Case : goal.put_stmt-returns-in_ok-put_default-in-Case
put_stmt-returns-in_ok-put_default-in-Case t c =
    let d = c.args.depth in
    told plain_stmt (statement_text d) c.args.s.now _ _ c.in-Case.is (plain_case c.in-Case.x c.in-Case.choices c.in-Case.other) c.put_line-in-Case.result c.args.out.now.items c.put_line-in-Case.new.out.items
    (on_ok_weaker c.put_line-in-Case.result
    (four_parts c.args.out.now.items c.put_expr_line-in-Case.new.out.items c.put_arms.new.out.items c.put_default.new.out.items c.put_line-in-Case.new.out.items
    (line d (codes "case (" ++ expression_text (plain c.in-Case.x) ++ codes ")")) (arms_text (d + 1) (arms (map plain_arm c.in-Case.choices.items))) (default_text d (plain_stmts c.in-Case.other.items)) (line d (codes "endcase"))
    c.in_ok-put_expr_line-in-Case.ensures (rw c.deref-in-Case.ensures.value at c.in_ok-put_arms-in-Case.ensures) (rw c.deref-in-Case-2.ensures.value at c.in_ok-put_default-in-Case.ensures)) c.put_line-in-Case.ensures)

pub put_arms-put_stmts-requires : goal.put_arms-put_stmts-requires
put_arms-put_stmts-requires t c = (search (rules, S.the_lemmas), rw c.deref-in-loop-arm.ensures.value (both (nat_lt c.args.depth 100) (statements_shallow (c.args.depth + 1) (plain_stmts c.arm-item.result.body.items)) (arm_left c.args.depth c.args.choices.now c.loop-arm.arm-index c.arm-item.result c.loop-arm-test.true c.arm-item.is c.loop-arm.invariant.shallow).0).1)

pub put_stmts-put_stmt-requires : goal.put_stmts-put_stmt-requires
put_stmts-put_stmt-requires t c = (search (rules, S.the_lemmas), (one_left (λ xs. statements_shallow c.args.depth (plain_stmts xs)) (statement_shallow c.args.depth (plain_stmt c.s-item.result)) c.args.body.now c.loop-s.s-index c.s-item.result c.loop-s-test.true c.s-item.is refl c.loop-s.invariant.shallow).0)

pub put_stmt-put_stmts-requires : goal.put_stmt-put_stmts-requires
put_stmt-put_stmts-requires t c = (search (rules, S.the_lemmas), rw c.deref.ensures.value (if_shallow c.args.depth c.args.s.now c.in-If.c c.in-If.a c.in-If.b c.in-If.is c.requires).0)

pub put_stmt-put_else-requires : goal.put_stmt-put_else-requires
put_stmt-put_else-requires t c = (search (rules, S.the_lemmas), rw c.deref-in-If.ensures.value (if_shallow c.args.depth c.args.s.now c.in-If.c c.in-If.a c.in-If.b c.in-If.is c.requires).1)

pub put_stmt-put_arms-requires : goal.put_stmt-put_arms-requires
put_stmt-put_arms-requires t c = (search (rules, S.the_lemmas), rw c.deref-in-Case.ensures.value (case_shallow c.args.depth c.args.s.now c.in-Case.x c.in-Case.choices c.in-Case.other c.in-Case.is c.requires).0)

pub put_stmt-put_default-requires : goal.put_stmt-put_default-requires
put_stmt-put_default-requires t c = (search (rules, S.the_lemmas), rw c.deref-in-Case-2.ensures.value (case_shallow c.args.depth c.args.s.now c.in-Case.x c.in-Case.choices c.in-Case.other c.in-Case.is c.requires).1)

pub put_default-put_stmts-requires : goal.put_default-put_stmts-requires
put_default-put_stmts-requires t c = (search (rules, S.the_lemmas), (both (nat_lt (c.args.depth + 1) 100) (statements_shallow (c.args.depth + 2) (plain_stmts c.args.body.now)) c.requires).1)

pub put_else-put_stmts-requires : goal.put_else-put_stmts-requires
put_else-put_stmts-requires t c = (search (rules, S.the_lemmas), (both (nat_lt c.args.depth 100) (statements_shallow (c.args.depth + 1) (plain_stmts c.args.body.now)) c.requires).1)

pub put_stmt-returns-in-Set : goal.put_stmt-returns-in-Set
put_stmt-returns-in-Set t c = told plain_stmt (statement_text c.args.depth) c.args.s.now _ _ c.in-Set.is (plain_set c.in-Set.name c.in-Set.x) c.put_assigned.result c.args.out.now.items c.put_assigned.new.out.items c.put_assigned.ensures

pub put_arms-overflow_add-depth : goal.put_arms-overflow_add-depth
put_arms-overflow_add-depth t c = deeper c.args.depth (statements_shallow (c.args.depth + 1) (plain_stmts c.arm-item.result.body.items)) (arm_left c.args.depth c.args.choices.now c.loop-arm.arm-index c.arm-item.result c.loop-arm-test.true c.arm-item.is c.loop-arm.invariant.shallow).0

pub put_else-overflow_add-depth : goal.put_else-overflow_add-depth
put_else-overflow_add-depth t c = deeper c.args.depth (statements_shallow (c.args.depth + 1) (plain_stmts c.args.body.now)) c.requires
