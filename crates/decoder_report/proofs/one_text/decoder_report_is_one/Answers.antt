use Rattle.decoder_report.proofs.OneReport.{text_one}
use Rattle.decoder_report.proofs.one_text.decoder_report_is_one.Goals as goal

pub returns : goal.returns
returns c = text_one
