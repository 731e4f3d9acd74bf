use Rattle.std.proofs.Common.{◌≡◌, Some, map, drop}
use Rattle.pair_tracker.specs.Few.{cells_run}
use Rattle.pair_tracker.proofs.element_step.run_cells.Given as goal

abbrev pub invariant-loop-on : goal.invariant-loop-on
invariant-loop-on g l =
    cells_run (g.F.FewCells.machine l.fn.few) l.state (map Some (drop l.on-index l.cells)) l.fn.ops
    ≡ cells_run (g.F.FewCells.machine l.fn.few) l.fn.start (map Some l.cells) l.fn.ops
