use Rattle.bist_app.proofs.Making.{names_words}
use Rattle.bist_app.proofs.make.decide_make.Goals as goal

pub returns-in-Ok-clause-outputs : goal.returns-in-Ok-clause-outputs
returns-in-Ok-clause-outputs c = names_words c.args.words.now c.in_ok-number.number _ c.requires c.in-Ok.ensures
