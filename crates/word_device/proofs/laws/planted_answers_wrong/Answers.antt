use Rattle.word_device.proofs.Wholes.{planted_wrong}
use Rattle.word_device.proofs.laws.planted_answers_wrong.Goals as goal

pub returns : goal.returns
returns c = planted_wrong c.args.march.now c.args.memory.now c.known.ensures
