use Rattle.bench.proofs.Histories.{alone}
use Rattle.bench.proofs.laws.seen_alone.Goals as goal

pub returns : goal.returns
returns c = alone c.args.march.now c.args.memory.now
