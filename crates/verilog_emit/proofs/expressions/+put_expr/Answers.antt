use Rattle.std.proofs.Common.{Vec, Global, ◌≡◌, List, ℕ, ◌++◌, ◌∙◌, codes, map, true, false, refl, ap, sym}
use Rattle.std.proofs.lemmas.Result.{on_ok_weaker}
use Rattle.arrayvec.specs.ArrayString.{ArrayString}
use Rattle.bist_bits.specs.Vector.{Vector}
use Rattle.verilog_tree.specs.declared.tree.Expr.{Expr}
use Rattle.verilog_tree.specs.declared.tree.Expr as E
use Rattle.verilog_tree.specs.Grammar.{unary_mark}
use Rattle.verilog_tree.specs.Plain.{plain, expressions, Net, BitSelect, PartSelect, Literal, Concatenation}
use Rattle.verilog_tree.specs.Tokens.{mark_text}
use Rattle.verilog_emit.specs.Printed.{expression_text, parts_text, separator}
use Rattle.verilog_emit.proofs.Bodies.{behind_all, two_parts, three_parts, told, infix_written, choice_written, one_written, all_written}
use Rattle.verilog_tree.proofs.Layers.{plain_unary, plain_binary, plain_choose}
use Rattle.verilog_emit.proofs.expressions.+put_expr.Goals as goal

plain_name : (n : ArrayString) → plain (E.Name n) ≡ Net n.bytes
plain_name n = search E.the_lemmas

plain_bit : (n : ArrayString) (i : ℕ) → plain (E.Bit n i) ≡ BitSelect n.bytes i
plain_bit n i = search E.the_lemmas

plain_part : (n : ArrayString) (i j : ℕ) → plain (E.Part n i j) ≡ PartSelect n.bytes i j
plain_part n i j = search E.the_lemmas

plain_literal : (x : Vector) → plain (E.Lit x) ≡ Literal x
plain_literal x = search E.the_lemmas

plain_concat : (xs : Vec Expr Global) → plain (E.Concat xs) ≡ Concatenation (expressions (map plain xs.items))
plain_concat xs = search E.the_lemmas

pub put_enclosed-returns : goal.put_enclosed-returns
put_enclosed-returns t c =
    on_ok_weaker c.put-2.result
    (three_parts c.args.out.now.items c.put.new.out.items c.put_expr.new.out.items c.put-2.new.out.items c.args.before.now (expression_text (plain c.args.x.now)) c.args.behind.now c.in_ok-put.ensures.ok c.in_ok-put_expr.ensures) c.put-2.ensures.ok

pub put_expr-returns-in-Name : goal.put_expr-returns-in-Name
put_expr-returns-in-Name t c = told plain expression_text c.args.x.now _ _ c.in-Name.is (plain_name c.in-Name.name) c.put_name.result c.args.out.now.items c.put_name.new.out.items c.put_name.ensures

pub put_expr-returns-in-Bit : goal.put_expr-returns-in-Bit
put_expr-returns-in-Bit t c = told plain expression_text c.args.x.now _ _ c.in-Bit.is (plain_bit c.in-Bit.name c.in-Bit.place) c.put_bit.result c.args.out.now.items c.put_bit.new.out.items c.put_bit.ensures

pub put_expr-returns-in-Part : goal.put_expr-returns-in-Part
put_expr-returns-in-Part t c = told plain expression_text c.args.x.now _ _ c.in-Part.is (plain_part c.in-Part.name c.in-Part.high c.in-Part.low) c.put_part.result c.args.out.now.items c.put_part.new.out.items c.put_part.ensures

pub put_expr-returns-in-Lit : goal.put_expr-returns-in-Lit
put_expr-returns-in-Lit t c = told plain expression_text c.args.x.now _ _ c.in-Lit.is (plain_literal c.in-Lit.bits) c.put_literal.result c.args.out.now.items c.put_literal.new.out.items c.put_literal.ensures

pub put_expr-returns-in-Concat : goal.put_expr-returns-in-Concat
put_expr-returns-in-Concat t c =
    told plain expression_text c.args.x.now _ _ c.in-Concat.is (plain_concat c.in-Concat.parts) c.put_parts.result c.args.out.now.items c.put_parts.new.out.items
    (rw c.deref.ensures.value at c.put_parts.ensures)

pub put_expr-returns-in_ok-put-in-Unary : goal.put_expr-returns-in_ok-put-in-Unary
put_expr-returns-in_ok-put-in-Unary t c =
    told plain expression_text c.args.x.now _ _ c.in-Unary.is (plain_unary c.in-Unary.op c.in-Unary.a) c.put_enclosed.result c.args.out.now.items c.put_enclosed.new.out.items
    (on_ok_weaker c.put_enclosed.result
    (two_parts c.args.out.now.items c.put.new.out.items c.put_enclosed.new.out.items (codes "(") (mark_text (unary_mark c.in-Unary.op) ++ expression_text (plain c.in-Unary.a.value) ++ codes ")")
    c.in_ok-put-in-Unary.ensures.ok) (rw (c.unary_text.ensures, c.deref-in-Unary.ensures) at c.put_enclosed.ensures))

pub put_expr-returns-in_ok-put-in-Binary : goal.put_expr-returns-in_ok-put-in-Binary
put_expr-returns-in_ok-put-in-Binary t c =
    told plain expression_text c.args.x.now _ _ c.in-Binary.is (plain_binary c.in-Binary.op c.in-Binary.a c.in-Binary.b) c.put_enclosed-in-Binary-2.result c.args.out.now.items c.put_enclosed-in-Binary-2.new.out.items
    (on_ok_weaker c.put_enclosed-in-Binary-2.result
    (infix_written c.args.out.now.items c.put_enclosed-in-Binary.new.out.items c.put-in-Binary.new.out.items c.put_enclosed-in-Binary-2.new.out.items c.in-Binary.op (plain c.in-Binary.a.value) (plain c.in-Binary.b.value)
    (rw c.deref-in-Binary.ensures at c.in_ok-put_enclosed-in-Binary.ensures) (rw c.binary_text.ensures at c.in_ok-put-in-Binary.ensures.ok)) (rw c.deref-in-Binary-2.ensures at c.put_enclosed-in-Binary-2.ensures))

pub put_expr-returns-in_ok-put_enclosed-in-Choose-2 : goal.put_expr-returns-in_ok-put_enclosed-in-Choose-2
put_expr-returns-in_ok-put_enclosed-in-Choose-2 t c =
    told plain expression_text c.args.x.now _ _ c.in-Choose.is (plain_choose c.in-Choose.c c.in-Choose.a c.in-Choose.b) c.put_enclosed-in-Choose-3.result c.args.out.now.items c.put_enclosed-in-Choose-3.new.out.items
    (on_ok_weaker c.put_enclosed-in-Choose-3.result
    (choice_written c.args.out.now.items c.put_enclosed-in-Choose.new.out.items c.put_enclosed-in-Choose-2.new.out.items c.put_enclosed-in-Choose-3.new.out.items (plain c.in-Choose.c.value) (plain c.in-Choose.a.value) (plain c.in-Choose.b.value)
    (rw c.deref-in-Choose.ensures at c.in_ok-put_enclosed-in-Choose.ensures) (rw c.deref-in-Choose-2.ensures at c.in_ok-put_enclosed-in-Choose-2.ensures)) (rw c.deref-in-Choose-3.ensures at c.put_enclosed-in-Choose-3.ensures))

pub put_parts-loop-part-init : goal.put_parts-loop-part-init
put_parts-loop-part-init t c = ap (λ (o : List ℕ). o ++ parts_text true (expressions (map plain c.args.parts.now))) c.in_ok-put.ensures.ok

pub put_parts-loop-part-preserved : goal.put_parts-loop-part-preserved
put_parts-loop-part-preserved t c =
    let parts = c.args.parts.now in
    let i = c.loop-part.part-index in
    let x = c.part-item.result in
    let first = c.loop-part.first in
    let rest = λ (xs : List Expr). parts_text false (expressions (map plain xs)) in
    one_written (λ xs. parts_text first (expressions (map plain xs))) rest (separator first ++ expression_text (plain x)) parts i x c.loop-part.out.items c.put_expr.new.out.items (c.args.out.now.items ++ codes "{" ++ parts_text true (expressions (map plain parts)))
    c.loop-part-test.true c.part-item.is refl c.loop-part.invariant
    (two_parts c.loop-part.out.items c.put_separator.new.out.items c.put_expr.new.out.items (separator first) (expression_text (plain x)) c.in_ok-put_separator.ensures c.in_ok-put_expr.ensures)

pub put_parts-returns : goal.put_parts-returns
put_parts-returns t c =
    let parts = c.args.parts.now in
    let text = parts_text true (expressions (map plain parts)) in
    on_ok_weaker c.put-2.result
    (λ e. e ∙ ap (λ (o : List ℕ). o ++ codes "}") (all_written (λ xs. parts_text c.loop-part.first (expressions (map plain xs))) parts c.loop-part.part-index c.loop-part.out.items (c.args.out.now.items ++ codes "{" ++ text) c.loop-part-test.false refl c.loop-part.invariant) ∙ sym (behind_all c.args.out.now.items (codes "{") text (codes "}"))) c.put-2.ensures.ok
