use Rattle.std.proofs.Common.{◌≤◌, ap, sym, ◌∙◌, arith}
use Rattle.std.specs.Int.{from_bool}
use Rattle.std.specs.Prelude.{count_by}
use Rattle.std.proofs.lemmas.List.{take_all}
use Rattle.report.specs.Items.{item_of}
use Rattle.report.specs.Report.{is_in_class, is_covered_in, class_covered}
use Rattle.report.proofs.Counts.{class_size_of}
use Rattle.report_lines.proofs.CountSteps.{counted_more, one_at_most}
use Rattle.report.proofs.class_lines.count_class.Goals as goal

pub overflow_add-count : goal.overflow_add-count
overflow_add-count c = let small : from_bool c.is_of_class.result ≤ 1 = one_at_most c.is_of_class.result in rw c.from-count.ensures (omega arith)

pub overflow_add-covered : goal.overflow_add-covered
overflow_add-covered c = let small : from_bool c.is_covered_there.result ≤ 1 = one_at_most c.is_covered_there.result in rw c.from-covered.ensures (omega arith)

pub loop-item-preserved : goal.loop-item-preserved
loop-item-preserved c =
    let class = c.args.class in
    let js = c.args.judged.now in
    let i = c.loop-item.item-index in
    let x = c.item-item.result in
    let one : from_bool c.is_of_class.result ≤ 1 = one_at_most c.is_of_class.result in
    let other : from_bool c.is_covered_there.result ≤ 1 = one_at_most c.is_covered_there.result in
    record {
      count = rw c.from-count.ensures (counted_more (λ j. is_in_class class (item_of j)) js i x x c.loop-item.count c.is_of_class.result c.loop-item-test.true c.item-item.is (sym c.is_of_class.ensures) c.loop-item.invariant.count);
      covered = rw c.from-covered.ensures (counted_more (is_covered_in class) js i x x c.loop-item.covered c.is_covered_there.result c.loop-item-test.true c.item-item.is (sym c.is_covered_there.ensures) c.loop-item.invariant.covered);
      few = rw c.from-count.ensures (omega arith);
      fewer = rw c.from-covered.ensures (omega arith);
    }

pub returns-clause-count : goal.returns-clause-count
returns-clause-count c = c.loop-item.invariant.count ∙ ap (count_by (λ j. is_in_class c.args.class (item_of j))) (take_all c.loop-item.item-index c.args.judged.now c.loop-item-test.false) ∙ class_size_of c.args.class c.args.judged.now

pub returns-clause-covered : goal.returns-clause-covered
returns-clause-covered c = c.loop-item.invariant.covered ∙ ap (class_covered c.args.class) (take_all c.loop-item.item-index c.args.judged.now c.loop-item-test.false)
