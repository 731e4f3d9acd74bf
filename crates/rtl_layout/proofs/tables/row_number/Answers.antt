use Rattle.std.proofs.Common.{◌≡◌, ◌+◌, ◌*◌, ◌%◌, ◌^◌, ◌<◌, ap, ◌∙◌, arith}
use Rattle.verilog_tree.specs.Meaning.{bit}
use Rattle.rtl_layout.specs.inner.Flags.{row_flag}
use Rattle.rtl_layout.proofs.Rows.{row_stepped, row_small}
use Rattle.rtl_layout.proofs.tables.row_number.Goals as goal

pub overflow_add-row : goal.overflow_add-row
overflow_add-row c =
    let g = row_flag c.args.which c.args.element.now in
    let narrow = c.requires.narrow in
    let below = c.loop-i-test.true in
    let v : c.one_if.result ≡ bit (g c.loop-i.i) = c.one_if.ensures ∙ ap bit (c.at_number.ensures ∙ ap g c.from.ensures) in
    let fits : c.loop-i.row + c.one_if.result * 2 ^ c.loop-i.i % 18446744073709551616 < 18446744073709551616 =
    row_small g c.loop-i.i _ (omega arith) (row_stepped g c.loop-i.i c.one_if.result c.loop-i.row (omega arith) v c.loop-i.invariant) in
    omega arith

pub loop-i-preserved : goal.loop-i-preserved
loop-i-preserved c =
    let g = row_flag c.args.which c.args.element.now in
    let narrow = c.requires.narrow in
    let below = c.loop-i-test.true in
    let v : c.one_if.result ≡ bit (g c.loop-i.i) = c.one_if.ensures ∙ ap bit (c.at_number.ensures ∙ ap g c.from.ensures) in
    row_stepped g c.loop-i.i c.one_if.result c.loop-i.row (omega arith) v c.loop-i.invariant
