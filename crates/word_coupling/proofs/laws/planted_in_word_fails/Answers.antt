use Rattle.word_coupling.proofs.Chips.{detected_chips}
use Rattle.word_coupling.proofs.Failing.{fails_in_word, joint_fails_in_word}
use Rattle.word_coupling.proofs.laws.planted_in_word_fails.Goals as goal

pub returns-clause-there : goal.returns-clause-there
returns-clause-there c = detected_chips c.args.march.now c.args.memory.now

pub returns-clause-alone : goal.returns-clause-alone
returns-clause-alone c = fails_in_word c.args.march.now c.args.memory.now c.known.ensures

pub returns-clause-joint : goal.returns-clause-joint
returns-clause-joint c = joint_fails_in_word c.args.march.now c.args.memory.now c.known.ensures
