use Rattle.word_device.proofs.laws.freshly_planted_fails.Goals as goal
use Rattle.word_device.proofs.Marching.{fails_fresh}

pub returns : goal.returns
returns c = fails_fresh c.args.march.now c.args.memory.now c.known.ensures
