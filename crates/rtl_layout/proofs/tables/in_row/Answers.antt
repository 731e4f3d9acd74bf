use Rattle.std.proofs.Common.{◌≡◌, ℕ, map, ap, ◌∙◌, arith}
use Rattle.std.proofs.lemmas.Nat.{pow_pos}
use Rattle.rtl_layout.specs.Build.{bit_of, counted}
use Rattle.rtl_layout.proofs.Tabled.{one_bit, picked, bits_count}
use Rattle.rtl_layout.proofs.tables.in_row.Goals as goal

pub loop-i-preserved : goal.loop-i-preserved
loop-i-preserved c = one_bit (bit_of c.args.row.bytes c.row_width-width.result) c.loop-i.i c.loop-i.leaves.items c.push.new.self.items c.bit.result c.in_ok-push.ensures.items c.bit.ensures c.loop-i.invariant

pub pick_leaf-requires-clause-some : goal.pick_leaf-requires-clause-some
pick_leaf-requires-clause-some c =
    let n = bits_count (bit_of c.args.row.bytes c.row_width-width.result) c.loop-i.i c.loop-i.leaves.items c.loop-i.invariant in
    let end = c.loop-i-test.false in
    let wide = c.row_width-width.ensures in
    let some = pow_pos c.args.plan.now.oper_width in
    omega arith

pub pick_leaf-requires-clause-fits : goal.pick_leaf-requires-clause-fits
pick_leaf-requires-clause-fits c =
    let n = bits_count (bit_of c.args.row.bytes c.row_width-width.result) c.loop-i.i c.loop-i.leaves.items c.loop-i.invariant in
    let end = c.loop-i.auto.i-end in
    let wide = c.row_width-width.ensures in
    omega arith

pub returns : goal.returns
returns c =
    let last : c.loop-i.i ≡ c.row_width-width.result = let a = c.loop-i-test.false in let b = c.loop-i.auto.i-end in omega arith in
    picked c.pick_leaf.result _ _ c.args.plan.now.oper_width _ _ c.name.ensures
    (c.loop-i.invariant
    ∙ ap (λ (n : ℕ). map (bit_of c.args.row.bytes c.row_width-width.result) (counted n)) last
    ∙ ap (λ (n : ℕ). map (bit_of c.args.row.bytes n) (counted n)) c.row_width-width.ensures)
    c.pick_leaf.ensures
