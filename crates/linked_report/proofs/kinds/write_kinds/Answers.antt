use Rattle.std.proofs.Common.{refl, get_or}
use Rattle.linked_faults.specs.declared.table.LinkKind.TheVariants.{LF1}
use Rattle.report_lines.proofs.LinesGrow.{text_more}
use Rattle.linked_report.specs.Report.{kind_order}
use Rattle.linked_report.specs.inner.Counted.{counted_line}
use Rattle.linked_report.proofs.kinds.write_kinds.Goals as goal

pub loop-kind-preserved : goal.loop-kind-preserved
loop-kind-preserved c =
    let kind = get_or kind_order c.loop-kind.kind-index LF1 in
    text_more (counted_line c.args.judged.now) kind_order c.loop-kind.kind-index LF1 kind c.args.out.now.items c.loop-kind.out.items c.write_kind.new.out.items
    c.loop-kind-test.true refl c.loop-kind.invariant c.in_ok-write_kind.ensures
