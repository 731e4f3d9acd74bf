use Rattle.bist_app.proofs.ReadTexts.{reads_itself, reads_no_other}
use Rattle.bist_app.proofs.laws.generated_texts_are_read.Goals as goal

pub returns-clause-its_own : goal.returns-clause-its_own
returns-clause-its_own c = reads_itself

pub returns-clause-no_other : goal.returns-clause-no_other
returns-clause-no_other c = reads_no_other
