use Rattle.std.proofs.Common.{◌≡◌, ℕ, List, length, le_refl, refl, cond, nat_eq, option_map, map, drop, sym, ap, ap₂, ◌∙◌, subst, arith}
use Rattle.std.proofs.lemmas.List.{drop_all}
use Rattle.verilog_tree.specs.Plain.{Concatenation, Prefixed, Infixed, Conditional, Expressions, plain, expressions}
use Rattle.verilog_tree.specs.declared.tree.Expr.{Expr}
use Rattle.verilog_tree.proofs.Layers.{plain_unary, plain_binary, plain_choose}
use Rattle.verilog_code.specs.Code.{prefixed_code}
use Rattle.verilog_code.specs.OpenCode.{picked}
use Rattle.verilog_code.specs.Reading.{Reads}
use Rattle.verilog_cycle.specs.Compile.{JoinsParts}
use Rattle.verilog_cycle.proofs.Compiling.{prefixed_compiles, choice_compiles}
use Rattle.verilog_cycle.proofs.Reading.{one_reads, three_reads}
use Rattle.verilog_cycle.proofs.Codes.{plain_name, plain_bit, plain_part, plain_literal, plain_concat, ok_boxed, boxed_compiles, joined_compiles, number_compiles, number_reads, net_compiles, net_reads, bit_part_compiles, bits_compile, part_reads, two_compile, infixed_reads}
use Rattle.verilog_cycle.specs.inner.Scope.{scope_widths, scope_places}
use Rattle.verilog_cycle.proofs.Joining.{one_before, last_part, before_within, one_back}
use Rattle.verilog_cycle.proofs.compile.+expression.Goals as goal

pub joined-loop-i-init : goal.joined-loop-i-init
joined-loop-i-init t c =
    let w = scope_widths c.args.scope.now in
    let ns = scope_places c.args.scope.now in
    let parts = c.args.parts.now in
    let all = c.in_ok-all.all in
    record {
      joins = subst (λ (l : List Expr). JoinsParts w ns (expressions (map plain l)) all.width all.code.value) (sym (drop_all (length parts) parts (le_refl (length parts)))) (c.in_ok-all.ensures.compiles w ns);
      reads = c.in_ok-all.ensures.reads;
    }

pub joined-bounds-parts-i : goal.joined-bounds-parts-i
joined-bounds-parts-i t c = before_within c.loop-i.i _ c.loop-i-test.true c.loop-i.auto.i

pub joined-loop-i-smaller : goal.joined-loop-i-smaller
joined-loop-i-smaller t c = one_back c.loop-i.i c.loop-i-test.true

pub joined-loop-i-preserved : goal.joined-loop-i-preserved
joined-loop-i-preserved t c =
    let w = scope_widths c.args.scope.now in
    let ns = scope_places c.args.scope.now in
    let parts = c.args.parts.now in
    let i = c.loop-i.i in
    let d = c.index-parts-i.result in
    let all = c.in_ok-all-2.all in
    record {
      joins = subst (λ (xs : Expressions). JoinsParts w ns xs all.width all.code.value) (sym (one_before parts i d c.loop-i-test.true c.loop-i.auto.i c.index-parts-i.is))
          (c.in_ok-all-2.ensures.compiles w ns (plain d) (expressions (map plain (drop i parts))) (last_part parts i c.loop-i-test.true) c.in_ok-a.ensures.compiles c.loop-i.invariant.joins);
      reads = c.in_ok-all-2.ensures.reads c.in_ok-a.ensures.reads c.loop-i.invariant.reads;
    }

pub joined-returns-clause-compiles : goal.joined-returns-clause-compiles
joined-returns-clause-compiles t c =
    let done = c.loop-i-test.false in
    let first : c.loop-i.i ≡ 0 = omega (arith, done) in
    subst (λ (k : ℕ). JoinsParts (scope_widths c.args.scope.now) (scope_places c.args.scope.now) (expressions (map plain (drop k c.args.parts.now))) c.loop-i.all.width c.loop-i.all.code.value) first c.loop-i.invariant.joins

pub joined-returns-clause-reads : goal.joined-returns-clause-reads
joined-returns-clause-reads t c = c.loop-i.invariant.reads

-- ---- the code of one expression

pub expression-returns-in-Name-clause-compiles : goal.expression-returns-in-Name-clause-compiles
expression-returns-in-Name-clause-compiles t c =
    let w = scope_widths c.args.scope.now in
    let ns = scope_places c.args.scope.now in
    boxed_compiles w ns _ _ _ _ _ _ c.boxed.result c.boxed.ensures (ap plain c.in-Name.is ∙ plain_name c.in-Name.name)
    c.width-width.ensures
    (net_compiles w ns c.in-Name.name.bytes c.number-place.result c.number-place.ensures)

pub expression-returns-in-Name-clause-reads : goal.expression-returns-in-Name-clause-reads
expression-returns-in-Name-clause-reads t c = ok_boxed (λ k i y. Reads i y) _ _ _ c.boxed.result c.boxed.ensures (net_reads c.number-place.result c.bit.result c.bit.ensures)

pub expression-returns-in-Bit-clause-compiles : goal.expression-returns-in-Bit-clause-compiles
expression-returns-in-Bit-clause-compiles t c =
    let w = scope_widths c.args.scope.now in
    let ns = scope_places c.args.scope.now in
    boxed_compiles w ns _ _ _ _ _ _ c.boxed-in-Bit.result c.boxed-in-Bit.ensures (ap plain c.in-Bit.is ∙ plain_bit c.in-Bit.name c.in-Bit.bit)
    refl
    (bit_part_compiles w ns c.in-Bit.name.bytes c.in-Bit.bit c.number-place-in-Bit.result c.number-place-in-Bit.ensures)

pub expression-returns-in-Bit-clause-reads : goal.expression-returns-in-Bit-clause-reads
expression-returns-in-Bit-clause-reads t c = ok_boxed (λ k i y. Reads i y) _ _ _ c.boxed-in-Bit.result c.boxed-in-Bit.ensures (part_reads c.number-place-in-Bit.result c.in-Bit.bit 1 c.bit-in-Bit.result c.bit-in-Bit.ensures)

pub expression-returns-in-Part-clause-compiles : goal.expression-returns-in-Part-clause-compiles
expression-returns-in-Part-clause-compiles t c =
    let w = scope_widths c.args.scope.now in
    let ns = scope_places c.args.scope.now in
    boxed_compiles w ns _ _ _ _ _ _ c.boxed-in-Part.result c.boxed-in-Part.ensures (ap plain c.in-Part.is ∙ plain_part c.in-Part.name c.in-Part.high c.in-Part.low)
    refl
    (bits_compile w ns c.in-Part.name.bytes c.in-Part.high c.in-Part.low c.saturating_sub-width.result c.ones.result c.number-place-in-Part.result c.number-place-in-Part.ensures c.saturating_sub-width.ensures c.ones.ensures)

pub expression-returns-in-Part-clause-reads : goal.expression-returns-in-Part-clause-reads
expression-returns-in-Part-clause-reads t c = ok_boxed (λ k i y. Reads i y) _ _ _ c.boxed-in-Part.result c.boxed-in-Part.ensures (part_reads c.number-place-in-Part.result c.in-Part.low c.ones.result c.bit-in-Part.result c.bit-in-Part.ensures)

pub expression-returns-in-Lit-clause-compiles : goal.expression-returns-in-Lit-clause-compiles
expression-returns-in-Lit-clause-compiles t c =
    let w = scope_widths c.args.scope.now in
    let ns = scope_places c.args.scope.now in
    boxed_compiles w ns _ _ _ _ _ _ c.boxed-in-Lit.result c.boxed-in-Lit.ensures (ap plain c.in-Lit.is ∙ plain_literal c.in-Lit.bits)
    c.width.ensures.width
    (number_compiles w ns c.in-Lit.bits c.value.result c.value.ensures.value)

pub expression-returns-in-Lit-clause-reads : goal.expression-returns-in-Lit-clause-reads
expression-returns-in-Lit-clause-reads t c = ok_boxed (λ k i y. Reads i y) _ _ _ c.boxed-in-Lit.result c.boxed-in-Lit.ensures (number_reads c.value.result)

pub expression-returns-in-Concat-clause-compiles : goal.expression-returns-in-Concat-clause-compiles
expression-returns-in-Concat-clause-compiles t c =
    joined_compiles (scope_widths c.args.scope.now) (scope_places c.args.scope.now) (plain c.args.x.now) _ c.joined.result
    (ap plain c.in-Concat.is ∙ plain_concat c.in-Concat.parts ∙ ap (λ (l : List Expr). Concatenation (expressions (map plain l))) (sym c.deref.ensures.value)) c.joined.ensures.compiles

pub expression-returns-in-Concat-clause-reads : goal.expression-returns-in-Concat-clause-reads
expression-returns-in-Concat-clause-reads t c = c.joined.ensures.reads

pub expression-returns-in_ok-a-in-Unary-clause-compiles : goal.expression-returns-in_ok-a-in-Unary-clause-compiles
expression-returns-in_ok-a-in-Unary-clause-compiles t c =
    let w = scope_widths c.args.scope.now in
    let ns = scope_places c.args.scope.now in
    boxed_compiles w ns _ _ _ _ _ _ c.boxed-in-Unary.result c.boxed-in-Unary.ensures (ap plain c.in-Unary.is ∙ plain_unary c.in-Unary.op c.in-Unary.a ∙ ap (λ (x : Expr). Prefixed c.in-Unary.op (plain x)) (sym c.deref-in-Unary.ensures))
    refl
    (prefixed_compiles w ns c.in-Unary.op _ c.in_ok-a-in-Unary.a.width c.unary_width.result c.ones-in-Unary.result c.in_ok-a-in-Unary.a.code.value c.unary_code-code.result c.in_ok-a-in-Unary.ensures.compiles c.unary_width.ensures c.ones-in-Unary.ensures c.unary_code-code.ensures.closed c.unary_code-code.ensures.when_open)

pub expression-returns-in_ok-a-in-Unary-clause-reads : goal.expression-returns-in_ok-a-in-Unary-clause-reads
expression-returns-in_ok-a-in-Unary-clause-reads t c = ok_boxed (λ k i y. Reads i y) _ _ _ c.boxed-in-Unary.result c.boxed-in-Unary.ensures (one_reads c.in_ok-a-in-Unary.a.reads c.in_ok-a-in-Unary.a.code.value c.unary_code-code.result (prefixed_code c.in-Unary.op c.ones-in-Unary.result) (option_map (prefixed_code c.in-Unary.op c.ones-in-Unary.result)) c.unary_code-code.ensures.closed c.unary_code-code.ensures.when_open c.in_ok-a-in-Unary.ensures.reads)

pub expression-returns-in_ok-b-in-Binary-clause-compiles : goal.expression-returns-in_ok-b-in-Binary-clause-compiles
expression-returns-in_ok-b-in-Binary-clause-compiles t c =
    let w = scope_widths c.args.scope.now in
    let ns = scope_places c.args.scope.now in
    boxed_compiles w ns _ _ _ _ _ _ c.boxed-in-Binary.result c.boxed-in-Binary.ensures (ap plain c.in-Binary.is ∙ plain_binary c.in-Binary.op c.in-Binary.a c.in-Binary.b ∙ ap₂ (λ (x y : Expr). Infixed c.in-Binary.op (plain x) (plain y)) (sym c.deref-in-Binary.ensures) (sym c.deref-in-Binary-2.ensures))
    refl
    (two_compile w ns c.in-Binary.op _ _ c.in_ok-a-in-Binary.a.width c.in_ok-b-in-Binary.b.width c.binary_width.result c.ones-in-Binary.result c.in_ok-a-in-Binary.a.code c.in_ok-b-in-Binary.b.code c.in_ok-a-in-Binary.ensures.compiles c.in_ok-b-in-Binary.ensures.compiles c.binary_width.ensures c.ones-in-Binary.ensures)

pub expression-returns-in_ok-b-in-Binary-clause-reads : goal.expression-returns-in_ok-b-in-Binary-clause-reads
expression-returns-in_ok-b-in-Binary-clause-reads t c = ok_boxed (λ k i y. Reads i y) _ _ _ c.boxed-in-Binary.result c.boxed-in-Binary.ensures (infixed_reads c.in-Binary.op c.in_ok-a-in-Binary.a.reads c.in_ok-b-in-Binary.b.reads c.ones-in-Binary.result c.in_ok-a-in-Binary.a.code c.in_ok-b-in-Binary.b.code c.in_ok-a-in-Binary.ensures.reads c.in_ok-b-in-Binary.ensures.reads)

pub expression-returns-in_ok-b-in-Choose-clause-compiles : goal.expression-returns-in_ok-b-in-Choose-clause-compiles
expression-returns-in_ok-b-in-Choose-clause-compiles t c =
    let w = scope_widths c.args.scope.now in
    let ns = scope_places c.args.scope.now in
    boxed_compiles w ns _ _ _ _ _ _ c.boxed-in-Choose.result c.boxed-in-Choose.ensures
    (ap plain c.in-Choose.is ∙ plain_choose c.in-Choose.c c.in-Choose.a c.in-Choose.b ∙ ap (λ (x : Expr). Conditional (plain x) (plain c.in-Choose.a.value) (plain c.in-Choose.b.value)) (sym c.deref-in-Choose.ensures)
    ∙ ap₂ (λ (x y : Expr). Conditional (plain c.deref-in-Choose.result.now) (plain x) (plain y)) (sym c.deref-in-Choose-2.ensures) (sym c.deref-in-Choose-3.ensures))
    refl
    (choice_compiles w ns _ _ _ c.in_ok-c-in-Choose.c.width c.in_ok-a-in-Choose.a.width c.in_ok-b-in-Choose.b.width c.in_ok-c-in-Choose.c.code.value c.in_ok-a-in-Choose.a.code.value c.in_ok-b-in-Choose.b.code.value c.choice-code.result c.in_ok-c-in-Choose.ensures.compiles c.in_ok-a-in-Choose.ensures.compiles c.in_ok-b-in-Choose.ensures.compiles c.choice-code.ensures.closed c.choice-code.ensures.when_open)

pub expression-returns-in_ok-b-in-Choose-clause-reads : goal.expression-returns-in_ok-b-in-Choose-clause-reads
expression-returns-in_ok-b-in-Choose-clause-reads t c = ok_boxed (λ k i y. Reads i y) _ _ _ c.boxed-in-Choose.result c.boxed-in-Choose.ensures (three_reads c.in_ok-c-in-Choose.c.reads c.in_ok-a-in-Choose.a.reads c.in_ok-b-in-Choose.b.reads c.in_ok-c-in-Choose.c.code.value c.in_ok-a-in-Choose.a.code.value c.in_ok-b-in-Choose.b.code.value c.choice-code.result (λ x y z. cond (nat_eq x 0) z y) picked c.choice-code.ensures.closed c.choice-code.ensures.when_open c.in_ok-c-in-Choose.ensures.reads c.in_ok-a-in-Choose.ensures.reads c.in_ok-b-in-Choose.ensures.reads)
