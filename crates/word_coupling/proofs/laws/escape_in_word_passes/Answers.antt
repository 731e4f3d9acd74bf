use Rattle.word_coupling.proofs.Chips.{escape_chips}
use Rattle.word_coupling.proofs.Passing.{joint_passes_in_word}
use Rattle.word_coupling.proofs.laws.escape_in_word_passes.Goals as goal

pub returns-clause-there : goal.returns-clause-there
returns-clause-there c = escape_chips c.args.march.now c.args.memory.now

pub returns-clause-joint : goal.returns-clause-joint
returns-clause-joint c = joint_passes_in_word c.args.march.now c.args.memory.now c.known.ensures
