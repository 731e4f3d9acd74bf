use Rattle.std.proofs.Common.{◌≡◌, ℕ, ◌+◌, ◌-◌, ◌<◌, Bool, true, false, ◌&&◌, List, map, length, drop, get_or, nat_lt, Vec, Box, Global, refl, ap, sym, ◌∙◌}
use Rattle.std.proofs.lemmas.Bool.{lt-ltb, le-ltb, and_right}
use Rattle.std.proofs.lemmas.List.{at_drop_all}
use Rattle.std.proofs.Math.Bool.{and-true}
use Rattle.verilog_tree.specs.declared.tree.BinOp.{BinOp}
use Rattle.verilog_tree.specs.declared.tree.Expr.{Expr}
use Rattle.verilog_tree.specs.declared.tree.Expr as E
use Rattle.verilog_tree.specs.Plain.{plain, expressions, Concatenation}
use Rattle.verilog_tree.specs.Fits.{expression_fits, expressions_fit}
use Rattle.verilog_tree.proofs.InOrder.{at_item, and_then, and_else}
use Rattle.verilog_tree.proofs.Layers.{plain_unary, plain_binary, plain_choose}
use Rattle.verilog_tree.proofs.layout.+expr_fits.Goals.{then-room-gt0-2, else-room-gt0-2, then-room-gt0-3, else-room-gt0-3, then-expr_fits-2, else-expr_fits-2}
use Rattle.verilog_tree.proofs.layout.+expr_fits.Goals as goal

concat_is : (x : Expr) (xs : Vec Expr Global) → x ≡ E.Concat xs → plain x ≡ Concatenation (expressions (map plain xs.items))
concat_is x xs is = ap plain is ∙ search E.the_lemmas

-- a loop's tests at a part
at_part : (room inner : ℕ) (parts : List Expr) (i : ℕ) (x : Expr) (b whole : Bool) → inner ≡ room - 1 → i < length parts → x ≡ get_or parts i x → b ≡ expression_fits inner (plain x) → expressions_fit (room - 1) (expressions (map plain (drop i parts))) ≡ whole →
    (b && expressions_fit (room - 1) (expressions (map plain (drop (i + 1) parts)))) ≡ whole
at_part room inner parts i x b whole less below at e so_far =
    ap (λ t. t && expressions_fit (room - 1) (expressions (map plain (drop (i + 1) parts)))) (e ∙ ap (λ k. expression_fits k (plain x)) less)
    ∙ sym (at_item (λ xs. expressions_fit (room - 1) (expressions (map plain xs))) parts i x below at)
    ∙ so_far

-- the tests of a concatenation, and of two and three operands, one behind another
concat_fits : (room : ℕ) (x : Expr) (xs : Vec Expr Global) (parts : List Expr) (b : Bool) → x ≡ E.Concat xs → parts ≡ xs.items → b ≡ expressions_fit (room - 1) (expressions (map plain parts)) → (nat_lt 0 room && b) ≡ expression_fits room (plain x)
concat_fits room x xs parts b is same e = ap (λ t. nat_lt 0 room && t) (e ∙ ap (λ l. expressions_fit (room - 1) (expressions (map plain l))) same) ∙ sym (ap (expression_fits room) (concat_is x xs is))

binary_fits : (room inner : ℕ) (x : Expr) (o : BinOp) (y z : Box Expr Global) (t u : Bool) → x ≡ E.Binary o y z → inner ≡ room - 1 → t ≡ (nat_lt 0 room && expression_fits inner (plain y.value)) → u ≡ (t && expression_fits inner (plain z.value)) → u ≡ expression_fits room (plain x)
binary_fits room inner x o y z t u is less p q = rw (q, p, less) (sym (ap (expression_fits room) (ap plain is ∙ plain_binary o y z)))

choose_fits : (room inner : ℕ) (x : Expr) (c y z : Box Expr Global) (t u v : Bool) → x ≡ E.Choose c y z → inner ≡ room - 1 → t ≡ (nat_lt 0 room && expression_fits inner (plain c.value)) → u ≡ (t && expression_fits inner (plain y.value)) → v ≡ (u && expression_fits inner (plain z.value)) →
    v ≡ expression_fits room (plain x)
choose_fits room inner x c y z t u v is less p q r = rw (r, q, p, less) (sym (ap (expression_fits room) (ap plain is ∙ plain_choose c y z)))

pub loop-part-init : goal.loop-part-init
loop-part-init t c = refl

pub returns-then-not-expr_fits : goal.returns-then-not-expr_fits
returns-then-not-expr_fits t c =
    let room = c.args.room in
    sym (and_right (nat_lt 0 room) false refl)
    ∙ concat_fits room c.args.x.now c.in-Concat.parts c.deref-part-items.result.now false c.in-Concat.is c.deref-part-items.ensures.value
    (at_part room c.saturating_sub-inner.result c.deref-part-items.result.now c.loop-part.part-index c.part-item.result false _ c.saturating_sub-inner.ensures c.loop-part-test.true c.part-item.is c.if-not-expr_fits.ensures c.loop-part.invariant)

pub loop-part-preserved : goal.loop-part-preserved
loop-part-preserved t c =
    at_part c.args.room c.saturating_sub-inner.result c.deref-part-items.result.now c.loop-part.part-index c.part-item.result true _ c.saturating_sub-inner.ensures c.loop-part-test.true c.part-item.is c.if-not-expr_fits.ensures c.loop-part.invariant

pub returns-after-loop-part : goal.returns-after-loop-part
returns-after-loop-part t c =
    let room = c.args.room in
    sym (and-true (nat_lt 0 room))
    ∙ concat_fits room c.args.x.now c.in-Concat.parts c.deref-part-items.result.now true c.in-Concat.is c.deref-part-items.ensures.value
    (sym (at_drop_all (λ xs. expressions_fit (room - 1) (expressions (map plain xs))) c.deref-part-items.result.now c.loop-part.part-index c.loop-part-test.false) ∙ c.loop-part.invariant)

pub returns-then-room-gt0 : goal.returns-then-room-gt0
returns-then-room-gt0 t c =
    and_then _ _ _ (lt-ltb 0 _ c.if-room-gt0.true) (c.expr_fits-then-room-gt0.ensures ∙ ap (λ k. expression_fits k (plain c.deref.result.now)) c.saturating_sub-inner.ensures ∙ ap (λ (x : Expr). expression_fits (c.args.room - 1) (plain x)) c.deref.ensures)
    ∙ sym (ap (expression_fits c.args.room) (ap plain c.in-Unary.is ∙ plain_unary c.in-Unary.field-0 c.in-Unary.a))

pub returns-else-room-gt0 : goal.returns-else-room-gt0
returns-else-room-gt0 t c =
    and_else _ _ _ (le-ltb 0 _ c.if-room-gt0.false) refl ∙ sym (ap (expression_fits c.args.room) (ap plain c.in-Unary.is ∙ plain_unary c.in-Unary.field-0 c.in-Unary.a))

pub returns-then-expr_fits : goal.returns-then-expr_fits
returns-then-expr_fits t c =
    let inner = c.saturating_sub-inner.result in
    binary_fits c.args.room inner c.args.x.now c.in-Binary.field-0 c.in-Binary.a c.in-Binary.b c.if-room-gt0-2.value c.expr_fits-then-expr_fits.result c.in-Binary.is c.saturating_sub-inner.ensures
    (elim c.if-room-gt0-2.branch [
      | then-room-gt0-2 w ↦ and_then _ _ _ (lt-ltb 0 _ w.if-room-gt0-2.true) (w.value-is ∙ w.expr_fits-then-room-gt0-2.ensures ∙ ap (λ (x : Expr). expression_fits inner (plain x)) w.deref-then-room-gt0-2.ensures)
      | else-room-gt0-2 w ↦ and_else _ _ _ (le-ltb 0 _ w.if-room-gt0-2.false) w.value-is
    ])
    (and_then _ _ _ c.if-expr_fits.true (c.expr_fits-then-expr_fits.ensures ∙ ap (λ (x : Expr). expression_fits inner (plain x)) c.deref-then-expr_fits.ensures))

pub returns-else-expr_fits : goal.returns-else-expr_fits
returns-else-expr_fits t c =
    let inner = c.saturating_sub-inner.result in
    binary_fits c.args.room inner c.args.x.now c.in-Binary.field-0 c.in-Binary.a c.in-Binary.b c.if-room-gt0-2.value c.if-room-gt0-2.value c.in-Binary.is c.saturating_sub-inner.ensures
    (elim c.if-room-gt0-2.branch [
      | then-room-gt0-2 w ↦ and_then _ _ _ (lt-ltb 0 _ w.if-room-gt0-2.true) (w.value-is ∙ w.expr_fits-then-room-gt0-2.ensures ∙ ap (λ (x : Expr). expression_fits inner (plain x)) w.deref-then-room-gt0-2.ensures)
      | else-room-gt0-2 w ↦ and_else _ _ _ (le-ltb 0 _ w.if-room-gt0-2.false) w.value-is
    ])
    (and_else _ _ _ c.if-expr_fits.false refl)

pub returns-then-expr_fits-3 : goal.returns-then-expr_fits-3
returns-then-expr_fits-3 t c =
    let inner = c.saturating_sub-inner.result in
    choose_fits c.args.room inner c.args.x.now c.in-Choose.c c.in-Choose.a c.in-Choose.b c.if-room-gt0-3.value c.if-expr_fits-2.value c.expr_fits-then-expr_fits-3.result c.in-Choose.is c.saturating_sub-inner.ensures
    (elim c.if-room-gt0-3.branch [
      | then-room-gt0-3 w ↦ and_then _ _ _ (lt-ltb 0 _ w.if-room-gt0-3.true) (w.value-is ∙ w.expr_fits-then-room-gt0-3.ensures ∙ ap (λ (x : Expr). expression_fits inner (plain x)) w.deref-then-room-gt0-3.ensures)
      | else-room-gt0-3 w ↦ and_else _ _ _ (le-ltb 0 _ w.if-room-gt0-3.false) w.value-is
    ])
    (elim c.if-expr_fits-2.branch [
      | then-expr_fits-2 w ↦ and_then _ _ _ w.if-expr_fits-2.true (w.value-is ∙ w.expr_fits-then-expr_fits-2.ensures ∙ ap (λ (x : Expr). expression_fits inner (plain x)) w.deref-then-expr_fits-2.ensures)
      | else-expr_fits-2 w ↦ and_else _ _ _ w.if-expr_fits-2.false w.value-is
    ])
    (and_then _ _ _ c.if-expr_fits-3.true (c.expr_fits-then-expr_fits-3.ensures ∙ ap (λ (x : Expr). expression_fits inner (plain x)) c.deref-then-expr_fits-3.ensures))

pub returns-else-expr_fits-3 : goal.returns-else-expr_fits-3
returns-else-expr_fits-3 t c =
    let inner = c.saturating_sub-inner.result in
    choose_fits c.args.room inner c.args.x.now c.in-Choose.c c.in-Choose.a c.in-Choose.b c.if-room-gt0-3.value c.if-expr_fits-2.value c.if-expr_fits-2.value c.in-Choose.is c.saturating_sub-inner.ensures
    (elim c.if-room-gt0-3.branch [
      | then-room-gt0-3 w ↦ and_then _ _ _ (lt-ltb 0 _ w.if-room-gt0-3.true) (w.value-is ∙ w.expr_fits-then-room-gt0-3.ensures ∙ ap (λ (x : Expr). expression_fits inner (plain x)) w.deref-then-room-gt0-3.ensures)
      | else-room-gt0-3 w ↦ and_else _ _ _ (le-ltb 0 _ w.if-room-gt0-3.false) w.value-is
    ])
    (elim c.if-expr_fits-2.branch [
      | then-expr_fits-2 w ↦ and_then _ _ _ w.if-expr_fits-2.true (w.value-is ∙ w.expr_fits-then-expr_fits-2.ensures ∙ ap (λ (x : Expr). expression_fits inner (plain x)) w.deref-then-expr_fits-2.ensures)
      | else-expr_fits-2 w ↦ and_else _ _ _ w.if-expr_fits-2.false w.value-is
    ])
    (and_else _ _ _ c.if-expr_fits-3.false refl)
