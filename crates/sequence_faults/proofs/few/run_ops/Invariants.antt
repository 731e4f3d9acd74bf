use Rattle.std.proofs.Common.{◌≡◌, drop}
use Rattle.pair_tracker.specs.Few.{ops_run}
use Rattle.sequence_faults.specs.inner.Few.{machine_of}
use Rattle.sequence_faults.proofs.few.run_ops.Given as goal

abbrev pub invariant-loop-op : goal.invariant-loop-op
invariant-loop-op l = ops_run (machine_of l.fn.prim) l.few l.fn.on (drop l.op-index l.ops) ≡ ops_run (machine_of l.fn.prim) l.fn.start l.fn.on l.ops
