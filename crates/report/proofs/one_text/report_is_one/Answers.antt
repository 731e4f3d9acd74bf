use Rattle.report.proofs.OneReport.{text_one}
use Rattle.report.proofs.one_text.report_is_one.Goals as goal

pub returns : goal.returns
returns c = text_one
