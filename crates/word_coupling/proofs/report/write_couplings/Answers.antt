use Rattle.std.proofs.Common.{◌∙◌}
use Rattle.report_lines.proofs.LinesGrow.{text_more, all_texts}
use Rattle.word_coupling.specs.inner.Judged.{judged_line}
use Rattle.word_coupling.proofs.report.write_couplings.Goals as goal

pub loop-coupling-preserved : goal.loop-coupling-preserved
loop-coupling-preserved c =
    text_more judged_line c.args.judged.now c.loop-coupling.coupling-index c.coupling-item.result c.coupling-item.result c.args.out.now.items c.loop-coupling.out.items c.put.new.out.items
    c.loop-coupling-test.true c.coupling-item.is c.loop-coupling.invariant (c.in_ok-put.ensures.ok ∙ c.in_ok-write_coupling.ensures)

pub returns : goal.returns
returns c = all_texts judged_line c.args.judged.now c.loop-coupling.coupling-index c.args.out.now.items c.loop-coupling.out.items c.loop-coupling-test.false c.loop-coupling.invariant
