use Rattle.word_coupling.proofs.Alike.{alike, forgets}
use Rattle.word_coupling.proofs.laws.readings_are_alike.Goals as goal

pub returns-clause-alike : goal.returns-clause-alike
returns-clause-alike c = alike c.args.march.now c.args.memory.now

pub returns-clause-forgets : goal.returns-clause-forgets
returns-clause-forgets c = forgets
