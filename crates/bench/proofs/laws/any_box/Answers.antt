use Rattle.bench.proofs.Histories.{any_box}
use Rattle.bench.proofs.laws.any_box.Goals as goal

pub returns : goal.returns
returns c = any_box c.args.march.now c.args.memory.now c.known.ensures c.known-2.ensures
