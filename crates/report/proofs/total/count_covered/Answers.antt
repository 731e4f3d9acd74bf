use Rattle.std.proofs.Common.{◌≤◌, ap, sym, ◌∙◌, arith}
use Rattle.std.specs.Int.{from_bool}
use Rattle.std.proofs.lemmas.List.{take_all}
use Rattle.report.specs.Items.{is_covered, covered_count}
use Rattle.report_lines.proofs.CountSteps.{counted_more, one_at_most}
use Rattle.report.proofs.total.count_covered.Goals as goal

pub overflow_add-count : goal.overflow_add-count
overflow_add-count c = let small : from_bool c.is_item_covered.result ≤ 1 = one_at_most c.is_item_covered.result in rw c.from-count.ensures (omega arith)

pub loop-item-preserved : goal.loop-item-preserved
loop-item-preserved c =
    let one : from_bool c.is_item_covered.result ≤ 1 = one_at_most c.is_item_covered.result in
    record {
      count = rw c.from-count.ensures (counted_more is_covered c.args.judged.now c.loop-item.item-index c.item-item.result c.item-item.result c.loop-item.count c.is_item_covered.result c.loop-item-test.true c.item-item.is (sym c.is_item_covered.ensures) c.loop-item.invariant.count);
      few = rw c.from-count.ensures (omega arith);
    }

pub returns-clause-value : goal.returns-clause-value
returns-clause-value c = c.loop-item.invariant.count ∙ ap covered_count (take_all c.loop-item.item-index c.args.judged.now c.loop-item-test.false)
