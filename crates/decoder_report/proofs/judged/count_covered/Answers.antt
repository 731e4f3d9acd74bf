use Rattle.std.proofs.Common.{◌≤◌, ap, sym, ◌∙◌, arith, refl, get_or}
use Rattle.std.specs.Int.{from_bool}
use Rattle.std.proofs.lemmas.List.{take_all}
use Rattle.report_lines.proofs.CountSteps.{counted_more, one_at_most}
use Rattle.decoder_report.specs.inner.Judged.{first, is_covered, covered_count}
use Rattle.decoder_report.proofs.judged.count_covered.Goals as goal

pub overflow_add-count : goal.overflow_add-count
overflow_add-count c = let small : from_bool c.is_fault_covered.result ≤ 1 = one_at_most c.is_fault_covered.result in rw c.from-count.ensures (omega arith)

pub loop-fault-preserved : goal.loop-fault-preserved
loop-fault-preserved c =
    let one : from_bool c.is_fault_covered.result ≤ 1 = one_at_most c.is_fault_covered.result in
    record {
      count = rw c.from-count.ensures (counted_more is_covered c.args.judged.now c.loop-fault.fault-index first (get_or c.args.judged.now c.loop-fault.fault-index first) c.loop-fault.count c.is_fault_covered.result c.loop-fault-test.true refl (sym c.is_fault_covered.ensures) c.loop-fault.invariant.count);
      few = rw c.from-count.ensures (omega arith);
    }

pub returns-clause-value : goal.returns-clause-value
returns-clause-value c = c.loop-fault.invariant.count ∙ ap covered_count (take_all c.loop-fault.fault-index c.args.judged.now c.loop-fault-test.false)
