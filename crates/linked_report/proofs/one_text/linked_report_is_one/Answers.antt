use Rattle.linked_report.proofs.OneReport.{text_one}
use Rattle.linked_report.proofs.one_text.linked_report_is_one.Goals as goal

pub returns : goal.returns
returns c = text_one
