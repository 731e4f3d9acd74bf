use Rattle.word_coupling.proofs.Reports.{one_in_word_text}
use Rattle.word_coupling.proofs.laws.in_word_report_is_one.Goals as goal

pub returns : goal.returns
returns c = one_in_word_text
