use Rattle.word_device.proofs.laws.unplanted_passes.Goals as goal
use Rattle.word_device.proofs.Marching.{passes_plain}
use Rattle.word_device.proofs.Joint.{passes_alone}

pub returns-clause-commands : goal.returns-clause-commands
returns-clause-commands c = passes_plain c.args.march.now c.args.memory.now c.known.ensures c.known-2.ensures

pub returns-clause-alone : goal.returns-clause-alone
returns-clause-alone c = passes_alone c.args.march.now c.args.memory.now c.known.ensures c.known-2.ensures
