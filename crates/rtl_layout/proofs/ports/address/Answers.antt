use Rattle.std.proofs.Common.{ℕ, ◌^◌, ◌<◌, List, length, sym, subst, ap, ◌∙◌, map, reverse, arith, lit<, lit≤}
use Rattle.std.specs.Prelude.{slice_index_or}
use Rattle.verilog_tree.specs.Plain.{Net}
use Rattle.rtl_layout.specs.Layout.{row_bit}
use Rattle.rtl_layout.specs.declared.row.Row.{Row}
use Rattle.rtl_layout.specs.Seen.{seen}
use Rattle.rtl_layout.specs.Shows.{no_row}
use Rattle.rtl_layout.proofs.Tabled.{one_before, none_before, all_before, place_before, address_straight, address_written}
use Rattle.rtl_layout.proofs.ports.address.Goals as goal

pub loop-i-init : goal.loop-i-init
loop-i-init c = none_before (row_bit c.args.plan.now.addr_width) c.as_slice-rows.result.now c.new-bits.result.items c.new-bits.ensures.items

pub row_bit-requires-clause-fits : goal.row_bit-requires-clause-fits
row_bit-requires-clause-fits c =
    let below = c.loop-i-test.true in
    subst (λ (l : List Row). (k : ℕ) → k < length l → (slice_index_or l k no_row).mask < 2 ^ c.args.plan.now.addr_width) (sym c.as_slice-rows.ensures.value) c.args.plan.now.is_plan.ready.sized.masks_fit
    _ (omega arith)

pub loop-i-preserved : goal.loop-i-preserved
loop-i-preserved c =
    one_before (row_bit c.args.plan.now.addr_width) c.as_slice-rows.result.now c.loop-i.i no_row c.loop-i.bits.items c.push.new.self.items c.in_ok-row_bit.field-0 c.loop-i-test.true
    c.in_ok-push.ensures.items c.in_ok-row_bit.ensures c.loop-i.invariant

pub returns : goal.returns
returns c =
    c.concat.ensures
    ∙ address_written (seen c.args.plan.now) _ c.if-plan.false
    (all_before (row_bit c.args.plan.now.addr_width) c.as_slice-rows.result.now c.loop-i.i c.loop-i.bits.items c.loop-i-test.false c.loop-i.invariant
    ∙ ap (λ l. reverse (map (row_bit c.args.plan.now.addr_width) l)) c.as_slice-rows.ensures.value)

pub name-requires : goal.name-requires
name-requires c = lit≤ tt

pub returns-then-plan : goal.returns-then-plan
returns-then-plan c = c.net.ensures ∙ ap Net c.name.ensures ∙ address_straight (seen c.args.plan.now) c.if-plan.true

pub as_slice-rows-requires : goal.as_slice-rows-requires
as_slice-rows-requires c = lit< tt

pub overflow_sub-row : goal.overflow_sub-row
overflow_sub-row c = (place_before _ _ c.loop-i-test.true).0

pub overflow_sub-row-in-loop-i : goal.overflow_sub-row-in-loop-i
overflow_sub-row-in-loop-i c = (place_before _ _ c.loop-i-test.true).1

pub bounds-rows-rows : goal.bounds-rows-rows
bounds-rows-rows c = (place_before _ _ c.loop-i-test.true).2

pub row_bit-requires-clause-positive : goal.row_bit-requires-clause-positive
row_bit-requires-clause-positive c = c.args.plan.now.is_plan.ready.sized.addr_some

pub row_bit-requires-clause-narrow : goal.row_bit-requires-clause-narrow
row_bit-requires-clause-narrow c = c.args.plan.now.is_plan.ready.sized.addr_narrow
