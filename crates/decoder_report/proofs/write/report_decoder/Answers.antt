use Rattle.std.proofs.Common.{sym, subst}
use Rattle.decoder_report.specs.Report.{DetectsOfSix}
use Rattle.decoder_report.proofs.Judging.{detected, report_of}
use Rattle.decoder_report.proofs.write.report_decoder.Goals as goal

pub returns-clause-report : goal.returns-clause-report
returns-clause-report c = report_of c.args.march.now c.judge_faults-judged.result c.in_ok-bytes.bytes.items c.judge_faults-judged.ensures.judged c.in_ok-bytes.ensures

pub returns-clause-covered : goal.returns-clause-covered
returns-clause-covered c =
    subst (DetectsOfSix c.args.march.now) (sym c.count_covered.ensures.value) (detected c.args.march.now c.judge_faults-judged.result c.judge_faults-judged.ensures.judged)
