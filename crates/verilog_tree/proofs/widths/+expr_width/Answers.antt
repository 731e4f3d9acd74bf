use Rattle.std.proofs.Common.{◌≡◌, ℕ, ◌+◌, ◌≤◌, min, List, [], ◌∷◌, map, drop, Option, None, Result, Ok, Err, refl, sym, ap, ◌∙◌, subst, arith}
use Rattle.std.specs.Result.{IsErr, IsErrAnd}
use Rattle.std.proofs.lemmas.List.{drop_all}
use Rattle.verilog_tree.specs.declared.fault.TreeFault.{TreeFault}
use Rattle.verilog_tree.specs.declared.tree.BinOp.{BinOp}
use Rattle.verilog_tree.specs.declared.tree.Expr.{Expr}
use Rattle.verilog_tree.specs.Plain.{Expression, Infixed, Conditional, Concatenation, plain, expressions}
use Rattle.verilog_tree.specs.Names.{width_of}
use Rattle.verilog_tree.specs.Meaning.{width, widths}
use Rattle.verilog_tree.specs.Operators.{prefixed_width, infixed_width}
use Rattle.verilog_tree.specs.Rules.{Break, Tells, first_of, unequal, infixed_widths, expression_widths, parts_widths}
use Rattle.verilog_tree.specs.inner.Rules.{RefusesOr}
use Rattle.verilog_tree.proofs.InOrder.{second, third, at_item}
use Rattle.verilog_tree.proofs.Refusals.{tells_now, tells_later}
use Rattle.verilog_tree.proofs.Layers.{concat_read, unary_read, binary_read, choose_read}
use Rattle.verilog_tree.proofs.widths.+expr_width.Goals as goal

infixed_is : (w : List ℕ → ℕ) (o : BinOp) (a b : Expr) (j k : ℕ) → (expression_widths w (plain a) ≡ None) × (j ≡ width w (plain a)) → (expression_widths w (plain b) ≡ None) × (k ≡ width w (plain b)) →
    expression_widths w (Infixed o (plain a) (plain b)) ≡ infixed_widths o j k
infixed_is w o a b j k e g =
    third (expression_widths w (plain a)) (expression_widths w (plain b)) (infixed_widths o (width w (plain a)) (width w (plain b))) e.0 g.0
    ∙ ap (λ n. infixed_widths o n (width w (plain b))) (sym e.1)
    ∙ ap (λ n. infixed_widths o j n) (sym g.1)

conditional_is : (w : List ℕ → ℕ) (c a b : Expr) (j k : ℕ) → expression_widths w (plain c) ≡ None → (expression_widths w (plain a) ≡ None) × (j ≡ width w (plain a)) →
    (expression_widths w (plain b) ≡ None) × (k ≡ width w (plain b)) → expression_widths w (Conditional (plain c) (plain a) (plain b)) ≡ unequal j k
conditional_is w c a b j k h e g =
    ap (λ o. first_of (o ∷ expression_widths w (plain a) ∷ expression_widths w (plain b) ∷ unequal (width w (plain a)) (width w (plain b)) ∷ [])) h
    ∙ third (expression_widths w (plain a)) (expression_widths w (plain b)) (unequal (width w (plain a)) (width w (plain b))) e.0 g.0
    ∙ ap (λ n. unequal n (width w (plain b))) (sym e.1)
    ∙ ap (λ n. unequal j n) (sym g.1)

-- what a `?` passes on of an expression that is read as another
passed_on : (w : List ℕ → ℕ) (f : TreeFault) (r : Result ℕ TreeFault) {y x : Expression} → IsErr r × IsErrAnd r (λ g. g ≡ f) → y ≡ x → Tells f (expression_widths w x) → RefusesOr (expression_widths w y) (width w y) r
passed_on w f (Ok k) h e t = absurd h.1
passed_on w f (Err g) {y} h e t = subst (λ (z : TreeFault). Tells z (expression_widths w y)) (sym h.1) (subst (λ (z : Expression). Tells f (expression_widths w z)) (sym e) t)

answered : (w : List ℕ → ℕ) (k : ℕ) {y x : Expression} → y ≡ x → expression_widths w x ≡ None → k ≡ width w x → (expression_widths w y ≡ None) × (k ≡ width w y)
answered w k e n h = (ap (expression_widths w) e ∙ n, h ∙ ap (width w) (sym e))

refused_as : {o p : Option Break} {j k : ℕ} (r : Result ℕ TreeFault) → o ≡ p → j ≡ k → RefusesOr p k r → RefusesOr o j r
refused_as r e g h = rw (e, g) h

total_more : (m total n k rest next whole : ℕ) → next ≡ min (total + n) m → n ≡ k → min (total + (k + rest)) m ≡ whole → min (next + rest) m ≡ whole
total_more m total n k rest next whole e g h = omega arith

total_fits : (m n next : ℕ) → next ≡ min n m → next ≤ m
total_fits m n next e = omega arith

total_done : (m total whole : ℕ) → total ≤ m → min (total + 0) m ≡ min whole m → total ≡ min whole m
total_done m total whole fits e = omega arith

pub loop-part-preserved : goal.loop-part-preserved
loop-part-preserved t c =
    let w : List ℕ → ℕ = width_of c.args.names.now in
    let rest : List Expr = drop (c.loop-part.part-index + 1) c.deref-part-items.result.now in
    let now : drop c.loop-part.part-index c.deref-part-items.result.now ≡ c.part-item.result ∷ rest = at_item (λ (l : List Expr). l) _ _ _ c.loop-part-test.true c.part-item.is in
    let part = c.in_ok-width-in-Concat.ensures in
    record {
      fits = total_fits _ _ _ c.saturating_add-total.ensures;
      total = total_more _ c.loop-part.total _ _ (widths w (expressions (map plain rest))) _ _ c.saturating_add-total.ensures part.1
          (ap (λ l. min (c.loop-part.total + widths w (expressions (map plain l))) 18446744073709551615) (sym now) ∙ c.loop-part.invariant.total);
      first =
          sym (second (expression_widths w (plain c.part-item.result)) _ part.0)
          ∙ ap (λ l. parts_widths w (expressions (map plain l))) (sym now)
          ∙ c.loop-part.invariant.first;
    }

pub returns-in_err-width-in-Concat : goal.returns-in_err-width-in-Concat
returns-in_err-width-in-Concat t c =
    let w : List ℕ → ℕ = width_of c.args.names.now in
    let f : TreeFault = c.in_err-width-in-Concat.field-0.0 in
    let now = at_item (λ (l : List Expr). l) _ _ _ c.loop-part-test.true c.part-item.is in
    passed_on w f c.from_residual.result c.from_residual.ensures (concat_read c.in-Concat.parts c.in-Concat.is c.deref-part-items.ensures.value)
    (tells_now f _ _ (subst (λ o. Tells f o) (ap (λ l. parts_widths w (expressions (map plain l))) (sym now) ∙ c.loop-part.invariant.first)
    (tells_now f (expression_widths w (plain c.part-item.result)) _ c.in_err-width-in-Concat.ensures)))

pub returns-after-loop-part : goal.returns-after-loop-part
returns-after-loop-part t c =
    let w : List ℕ → ℕ = width_of c.args.names.now in
    let ps : List Expr = c.deref-part-items.result.now in
    let none = drop_all c.loop-part.part-index ps c.loop-part-test.false in
    let is : plain c.args.x.now ≡ Concatenation (expressions (map plain ps)) = concat_read c.in-Concat.parts c.in-Concat.is c.deref-part-items.ensures.value in
    refused_as c.at_most_64.result
    (ap (expression_widths w) is ∙ second _ _ (sym c.loop-part.invariant.first ∙ ap (λ l. parts_widths w (expressions (map plain l))) none))
    (ap (width w) is)
    (c.at_most_64.ensures (widths w (expressions (map plain ps))) (total_done _ _ _ c.loop-part.invariant.fits
    (ap (λ l. min (c.loop-part.total + widths w (expressions (map plain l))) 18446744073709551615) (sym none) ∙ c.loop-part.invariant.total)))

pub returns-in_err-operand-in-Unary : goal.returns-in_err-operand-in-Unary
returns-in_err-operand-in-Unary t c =
    passed_on (width_of c.args.names.now) c.in_err-operand-in-Unary.field-0.0 c.from_residual-in_err-operand-in-Unary.result c.from_residual-in_err-operand-in-Unary.ensures
    (unary_read c.in-Unary.op c.in-Unary.a c.in-Unary.is c.deref.ensures) c.in_err-operand-in-Unary.ensures

pub returns-in_ok-operand-in-Unary : goal.returns-in_ok-operand-in-Unary
returns-in_ok-operand-in-Unary t c =
    let part = c.in_ok-operand-in-Unary.ensures in
    answered (width_of c.args.names.now) c.unary_width.result (unary_read c.in-Unary.op c.in-Unary.a c.in-Unary.is c.deref.ensures) part.0 (c.unary_width.ensures ∙ ap (prefixed_width c.in-Unary.op) part.1)

pub returns-in_err-left-in-Binary : goal.returns-in_err-left-in-Binary
returns-in_err-left-in-Binary t c =
    let f : TreeFault = c.in_err-left-in-Binary.field-0.0 in
    passed_on (width_of c.args.names.now) f c.from_residual-in_err-left-in-Binary.result c.from_residual-in_err-left-in-Binary.ensures
    (binary_read c.in-Binary.op c.in-Binary.a c.in-Binary.b c.in-Binary.is c.deref-in-Binary.ensures refl) (tells_now f _ _ c.in_err-left-in-Binary.ensures)

pub returns-in_err-right-in-Binary : goal.returns-in_err-right-in-Binary
returns-in_err-right-in-Binary t c =
    let f : TreeFault = c.in_err-right-in-Binary.field-0.0 in
    passed_on (width_of c.args.names.now) f c.from_residual-in_err-right-in-Binary.result c.from_residual-in_err-right-in-Binary.ensures
    (binary_read c.in-Binary.op c.in-Binary.a c.in-Binary.b c.in-Binary.is c.deref-in-Binary.ensures c.deref-in-Binary-2.ensures)
    (tells_later f _ _ c.in_ok-left-in-Binary.ensures.0 (tells_now f _ _ c.in_err-right-in-Binary.ensures))

pub returns-in_err-operands-in-Binary : goal.returns-in_err-operands-in-Binary
returns-in_err-operands-in-Binary t c =
    let w : List ℕ → ℕ = width_of c.args.names.now in
    let f : TreeFault = c.in_err-operands-in-Binary.field-0.0 in
    passed_on w f c.from_residual-in_err-operands-in-Binary.result c.from_residual-in_err-operands-in-Binary.ensures
    (binary_read c.in-Binary.op c.in-Binary.a c.in-Binary.b c.in-Binary.is c.deref-in-Binary.ensures c.deref-in-Binary-2.ensures)
    (subst (λ o. Tells f o) (sym (infixed_is w c.in-Binary.op c.deref-in-Binary.result.now c.deref-in-Binary-2.result.now _ _ c.in_ok-left-in-Binary.ensures c.in_ok-right-in-Binary.ensures)) c.in_err-operands-in-Binary.ensures)

pub returns-in_ok-operands-in-Binary : goal.returns-in_ok-operands-in-Binary
returns-in_ok-operands-in-Binary t c =
    let w : List ℕ → ℕ = width_of c.args.names.now in
    let left = c.in_ok-left-in-Binary.ensures in
    answered w c.binary_width.result
    (binary_read c.in-Binary.op c.in-Binary.a c.in-Binary.b c.in-Binary.is c.deref-in-Binary.ensures c.deref-in-Binary-2.ensures)
    (infixed_is w c.in-Binary.op c.deref-in-Binary.result.now c.deref-in-Binary-2.result.now _ _ left c.in_ok-right-in-Binary.ensures ∙ c.in_ok-operands-in-Binary.ensures)
    (c.binary_width.ensures ∙ ap (infixed_width c.in-Binary.op) left.1)

pub returns-in_err-_condition-in-Choose : goal.returns-in_err-_condition-in-Choose
returns-in_err-_condition-in-Choose t c =
    let f : TreeFault = c.in_err-_condition-in-Choose.field-0.0 in
    passed_on (width_of c.args.names.now) f c.from_residual-in_err-_condition-in-Choose.result c.from_residual-in_err-_condition-in-Choose.ensures
    (choose_read c.in-Choose.c c.in-Choose.a c.in-Choose.b c.in-Choose.is c.deref-in-Choose.ensures refl refl) (tells_now f _ _ c.in_err-_condition-in-Choose.ensures)

pub returns-in_err-left-in-Choose : goal.returns-in_err-left-in-Choose
returns-in_err-left-in-Choose t c =
    let f : TreeFault = c.in_err-left-in-Choose.field-0.0 in
    passed_on (width_of c.args.names.now) f c.from_residual-in_err-left-in-Choose.result c.from_residual-in_err-left-in-Choose.ensures
    (choose_read c.in-Choose.c c.in-Choose.a c.in-Choose.b c.in-Choose.is c.deref-in-Choose.ensures c.deref-in-Choose-2.ensures refl)
    (tells_later f _ _ c.in_ok-_condition-in-Choose.ensures.0 (tells_now f _ _ c.in_err-left-in-Choose.ensures))

pub returns-in_err-right-in-Choose : goal.returns-in_err-right-in-Choose
returns-in_err-right-in-Choose t c =
    let f : TreeFault = c.in_err-right-in-Choose.field-0.0 in
    passed_on (width_of c.args.names.now) f c.from_residual-in_err-right-in-Choose.result c.from_residual-in_err-right-in-Choose.ensures
    (choose_read c.in-Choose.c c.in-Choose.a c.in-Choose.b c.in-Choose.is c.deref-in-Choose.ensures c.deref-in-Choose-2.ensures c.deref-in-Choose-3.ensures)
    (tells_later f _ _ c.in_ok-_condition-in-Choose.ensures.0 (tells_later f _ _ c.in_ok-left-in-Choose.ensures.0 (tells_now f _ _ c.in_err-right-in-Choose.ensures)))

pub returns-in_err-equal-in-Choose : goal.returns-in_err-equal-in-Choose
returns-in_err-equal-in-Choose t c =
    let w : List ℕ → ℕ = width_of c.args.names.now in
    let f : TreeFault = c.in_err-equal-in-Choose.field-0.0 in
    passed_on w f c.from_residual-in_err-equal-in-Choose.result c.from_residual-in_err-equal-in-Choose.ensures
    (choose_read c.in-Choose.c c.in-Choose.a c.in-Choose.b c.in-Choose.is c.deref-in-Choose.ensures c.deref-in-Choose-2.ensures c.deref-in-Choose-3.ensures)
    (subst (λ o. Tells f o) (sym (conditional_is w c.deref-in-Choose.result.now c.deref-in-Choose-2.result.now c.deref-in-Choose-3.result.now _ _ c.in_ok-_condition-in-Choose.ensures.0 c.in_ok-left-in-Choose.ensures c.in_ok-right-in-Choose.ensures)) c.in_err-equal-in-Choose.ensures)

pub returns-in_ok-equal-in-Choose : goal.returns-in_ok-equal-in-Choose
returns-in_ok-equal-in-Choose t c =
    let w : List ℕ → ℕ = width_of c.args.names.now in
    let left = c.in_ok-left-in-Choose.ensures in
    answered w c.in_ok-left-in-Choose.left
    (choose_read c.in-Choose.c c.in-Choose.a c.in-Choose.b c.in-Choose.is c.deref-in-Choose.ensures c.deref-in-Choose-2.ensures c.deref-in-Choose-3.ensures)
    (conditional_is w c.deref-in-Choose.result.now c.deref-in-Choose-2.result.now c.deref-in-Choose-3.result.now _ _ c.in_ok-_condition-in-Choose.ensures.0 left c.in_ok-right-in-Choose.ensures ∙ c.in_ok-equal-in-Choose.ensures)
    left.1
