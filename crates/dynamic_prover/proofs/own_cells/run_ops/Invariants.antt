use Rattle.std.proofs.Common.{◌≡◌, drop}
use Rattle.pair_tracker.specs.Few.{ops_run}
use Rattle.dynamic_prover.specs.inner.Own.{machine_of}
use Rattle.dynamic_prover.proofs.own_cells.run_ops.Given as goal

abbrev pub invariant-loop-op : goal.invariant-loop-op
invariant-loop-op l = ops_run (machine_of l.prim) l.own l.on (drop l.op-index l.ops) ≡ ops_run (machine_of l.prim) l.fn.start l.on l.ops
