use Rattle.bench.proofs.Histories.{plain}
use Rattle.bench.proofs.laws.plain_passes.Goals as goal

pub returns : goal.returns
returns c = plain c.args.march.now c.args.memory.now c.known.ensures c.known-2.ensures
