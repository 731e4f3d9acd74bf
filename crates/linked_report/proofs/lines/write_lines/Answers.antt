use Rattle.std.proofs.Common.{◌∙◌}
use Rattle.report_lines.proofs.LinesGrow.{text_more, all_texts}
use Rattle.linked_report.specs.inner.Counted.{judged_link_line}
use Rattle.linked_report.proofs.lines.write_lines.Goals as goal

pub loop-link-preserved : goal.loop-link-preserved
loop-link-preserved c =
    text_more (judged_link_line c.args.size) c.args.judged.now c.loop-link.link-index c.link-item.result c.link-item.result c.args.out.now.items c.loop-link.out.items c.put.new.out.items
    c.loop-link-test.true c.link-item.is c.loop-link.invariant (c.in_ok-put.ensures.ok ∙ c.in_ok-write_line.ensures)

pub returns : goal.returns
returns c = all_texts (judged_link_line c.args.size) c.args.judged.now c.loop-link.link-index c.args.out.now.items c.loop-link.out.items c.loop-link-test.false c.loop-link.invariant
