use Rattle.bench.proofs.Histories.{planted}
use Rattle.bench.proofs.laws.planted_fails.Goals as goal

pub returns : goal.returns
returns c = planted c.args.march.now c.args.memory.now c.known-2.ensures
