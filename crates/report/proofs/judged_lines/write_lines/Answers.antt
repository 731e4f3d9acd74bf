use Rattle.std.proofs.Common.{◌∙◌}
use Rattle.report.specs.Report.{judged_line}
use Rattle.report_lines.proofs.LinesGrow.{text_more, all_texts}
use Rattle.report.proofs.judged_lines.write_lines.Goals as goal

pub loop-item-preserved : goal.loop-item-preserved
loop-item-preserved c =
    text_more (judged_line c.args.size) c.args.judged.now c.loop-item.item-index c.item-item.result c.item-item.result c.args.out.now.items c.loop-item.out.items c.put.new.out.items
    c.loop-item-test.true c.item-item.is c.loop-item.invariant (c.in_ok-put.ensures.ok ∙ c.in_ok-write_line.ensures)

pub returns : goal.returns
returns c = all_texts (judged_line c.args.size) c.args.judged.now c.loop-item.item-index c.args.out.now.items c.loop-item.out.items c.loop-item-test.false c.loop-item.invariant
