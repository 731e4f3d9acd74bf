use Rattle.word_faults.proofs.Linked.{linked_wrong}
use Rattle.word_faults.proofs.laws.linked_answers_wrong.Goals as goal

pub returns : goal.returns
returns c = linked_wrong c.args.march.now c.args.memory.now c.known.ensures c.known-2.ensures
