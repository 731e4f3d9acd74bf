use Rattle.word_device.proofs.laws.first_differs.Goals as goal
use Rattle.word_device.proofs.Joining.{same_words}
use Rattle.word_device.proofs.Joint.{joint_ends, same_first}

pub returns-clause-words : goal.returns-clause-words
returns-clause-words c = same_words c.args.march.now c.args.memory.now

pub returns-clause-ends : goal.returns-clause-ends
returns-clause-ends c = joint_ends c.args.march.now c.args.memory.now

pub returns-clause-first : goal.returns-clause-first
returns-clause-first c = same_first c.args.march.now c.args.memory.now
