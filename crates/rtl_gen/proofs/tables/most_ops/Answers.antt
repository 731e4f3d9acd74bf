use Rattle.std.proofs.Common.{arith}
use Rattle.rtl_gen.proofs.Listed.{all_below}
use Rattle.rtl_gen.proofs.tables.most_ops.Goals as goal

pub returns-clause-each : goal.returns-clause-each
returns-clause-each c = all_below c.args.march.now c.loop-i.most c.loop-i.i (omega arith) c.loop-i.invariant.2
