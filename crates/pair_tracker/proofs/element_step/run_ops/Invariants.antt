use Rattle.std.proofs.Common.{◌≡◌, drop}
use Rattle.pair_tracker.specs.Few.{ops_run}
use Rattle.pair_tracker.proofs.element_step.run_ops.Given as goal

abbrev pub invariant-loop-op : goal.invariant-loop-op
invariant-loop-op g l =
    ops_run (g.F.FewCells.machine l.fn.few) l.state l.fn.on (drop l.op-index l.ops) ≡ ops_run (g.F.FewCells.machine l.fn.few) l.fn.start l.fn.on l.ops
