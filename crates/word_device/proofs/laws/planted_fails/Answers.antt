use Rattle.word_device.proofs.laws.planted_fails.Goals as goal
use Rattle.word_device.proofs.Marching.{fails_planted, run_fails}

pub returns-clause-commands : goal.returns-clause-commands
returns-clause-commands c = fails_planted c.args.march.now c.args.memory.now c.known.ensures

pub returns-clause-alone : goal.returns-clause-alone
returns-clause-alone c = λ chip i has. run_fails c.args.march.now c.args.memory.now i chip c.known.ensures has
