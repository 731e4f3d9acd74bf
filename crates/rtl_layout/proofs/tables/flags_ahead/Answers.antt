use Rattle.std.proofs.Common.{ℕ, ◌^◌, ◌<◌, ap, ◌∙◌, sym, subst, arith}
use Rattle.rtl_layout.specs.Build.{lit}
use Rattle.rtl_layout.specs.inner.Flags.{row_flag, row_leaf}
use Rattle.rtl_layout.proofs.Built.{item_has}
use Rattle.rtl_layout.proofs.Rows.{row_fits}
use Rattle.rtl_layout.proofs.Tabled.{one_more, all_of, as_many, moved, moved_count, picked}
use Rattle.rtl_layout.proofs.tables.flags_ahead.Goals as goal

pub row_number-requires-clause-some : goal.row_number-requires-clause-some
row_number-requires-clause-some c = item_has _ _ _ _ c.args.plan.now.is_plan.ready c.as_slice-element-items.ensures.value c.loop-element-test.true c.element-item.is

pub literal-requires-clause-fits : goal.literal-requires-clause-fits
literal-requires-clause-fits c = subst (λ (v : ℕ). v < 2 ^ c.args.width) (sym c.row_number.ensures) (row_fits (row_flag c.args.which c.element-item.result) c.args.width)

pub loop-element-preserved : goal.loop-element-preserved
loop-element-preserved c =
    one_more (row_leaf c.args.width c.args.which) c.as_slice-element-items.result.now c.loop-element.element-index c.element-item.result c.loop-element.leaves.items c.push.new.self.items c.literal.result
    c.loop-element-test.true c.in_ok-push.ensures.items
    (c.literal.ensures ∙ ap (lit c.args.width) c.row_number.ensures ∙ ap (row_leaf c.args.width c.args.which) c.element-item.is)
    c.loop-element.invariant

pub rotate_left-requires : goal.rotate_left-requires
rotate_left-requires c =
    let told = all_of (row_leaf c.args.width c.args.which) c.as_slice-element-items.result.now c.loop-element.element-index c.loop-element.leaves.items c.loop-element-test.false c.loop-element.invariant in
    let count = as_many (row_leaf c.args.width c.args.which) c.as_slice-element-items.result.now c.args.plan.now.elements.items c.loop-element.leaves.items told c.as_slice-element-items.ensures.value in
    let some = c.args.plan.now.is_plan.ready.has_element in
    let near = c.requires.near in
    omega arith

pub pick_leaf-requires-clause-some : goal.pick_leaf-requires-clause-some
pick_leaf-requires-clause-some c =
    let told = all_of (row_leaf c.args.width c.args.which) c.as_slice-element-items.result.now c.loop-element.element-index c.loop-element.leaves.items c.loop-element-test.false c.loop-element.invariant in
    let some = c.args.plan.now.is_plan.ready.has_element in
    let near = c.requires.near in
    let size = moved_count (row_leaf c.args.width c.args.which) c.args.plan.now.elements.items c.rotate_left.new.self.items c.args.ahead (omega arith)
    (moved (row_leaf c.args.width c.args.which) _ c.args.plan.now.elements.items c.loop-element.leaves.items c.rotate_left.new.self.items c.args.ahead c.rotate_left.ensures.items told c.as_slice-element-items.ensures.value) in
    omega arith

pub pick_leaf-requires-clause-fits : goal.pick_leaf-requires-clause-fits
pick_leaf-requires-clause-fits c =
    let told = all_of (row_leaf c.args.width c.args.which) c.as_slice-element-items.result.now c.loop-element.element-index c.loop-element.leaves.items c.loop-element-test.false c.loop-element.invariant in
    let some = c.args.plan.now.is_plan.ready.has_element in
    let fits = c.args.plan.now.is_plan.ready.elements_fit in
    let near = c.requires.near in
    let size = moved_count (row_leaf c.args.width c.args.which) c.args.plan.now.elements.items c.rotate_left.new.self.items c.args.ahead (omega arith)
    (moved (row_leaf c.args.width c.args.which) _ c.args.plan.now.elements.items c.loop-element.leaves.items c.rotate_left.new.self.items c.args.ahead c.rotate_left.ensures.items told c.as_slice-element-items.ensures.value) in
    omega arith

pub returns : goal.returns
returns c =
    picked c.pick_leaf.result _ _ c.args.plan.now.element_width _ _ c.name.ensures
    (moved (row_leaf c.args.width c.args.which) _ c.args.plan.now.elements.items c.loop-element.leaves.items c.rotate_left.new.self.items c.args.ahead c.rotate_left.ensures.items
    (all_of (row_leaf c.args.width c.args.which) c.as_slice-element-items.result.now c.loop-element.element-index c.loop-element.leaves.items c.loop-element-test.false c.loop-element.invariant)
    c.as_slice-element-items.ensures.value)
    c.pick_leaf.ensures
