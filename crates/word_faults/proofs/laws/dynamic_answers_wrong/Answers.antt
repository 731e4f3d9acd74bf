use Rattle.word_faults.proofs.Dynamic.{dynamic_wrong}
use Rattle.word_faults.proofs.laws.dynamic_answers_wrong.Goals as goal

pub returns : goal.returns
returns c = dynamic_wrong c.args.march.now c.args.memory.now c.known.ensures
