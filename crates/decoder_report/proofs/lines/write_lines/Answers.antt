use Rattle.std.proofs.Common.{◌∙◌, refl, get_or}
use Rattle.report_lines.proofs.LinesGrow.{text_more, all_texts}
use Rattle.decoder_report.specs.inner.Judged.{first, judged_line}
use Rattle.decoder_report.proofs.lines.write_lines.Goals as goal

pub loop-fault-preserved : goal.loop-fault-preserved
loop-fault-preserved c =
    text_more (judged_line c.args.size) c.args.judged.now c.loop-fault.fault-index first (get_or c.args.judged.now c.loop-fault.fault-index first) c.args.out.now.items c.loop-fault.out.items c.put.new.out.items
    c.loop-fault-test.true refl c.loop-fault.invariant (c.in_ok-put.ensures.ok ∙ c.in_ok-write_line.ensures)

pub returns : goal.returns
returns c = all_texts (judged_line c.args.size) c.args.judged.now c.loop-fault.fault-index c.args.out.now.items c.loop-fault.out.items c.loop-fault-test.false c.loop-fault.invariant
