use Rattle.word_faults.proofs.There.{are_there}
use Rattle.word_faults.proofs.laws.memories_are_there.Goals as goal

pub returns : goal.returns
returns c = are_there c.args.memory.now c.known.ensures
