use Rattle.std.proofs.Common.{◌≡◌, drop}
use Rattle.word_coupling.specs.inner.Couples.{run_ops}
use Rattle.word_coupling.proofs.couple.run_ops.Given as goal

abbrev pub invariant-loop-op : goal.invariant-loop-op
invariant-loop-op l = run_ops l.reading l.prim l.background (drop l.op-index l.ops) l.pair ≡ run_ops l.reading l.prim l.background l.ops l.fn.start
