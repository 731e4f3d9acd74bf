use Rattle.std.proofs.Common.{◌≡◌, drop}
use Rattle.march_core.specs.Addresses.{direction_of}
use Rattle.pair_tracker.specs.Few.{cells_run}
use Rattle.sequence_faults.specs.inner.Few.{machine_of, order_at}
use Rattle.sequence_faults.proofs.few.run_cells.Given as goal

abbrev pub invariant-loop-turn : goal.invariant-loop-turn
invariant-loop-turn l =
    cells_run (machine_of l.fn.prim) l.few (drop l.turn (order_at l.fn.spots (direction_of l.fn.is_down))) l.fn.ops
    ≡ cells_run (machine_of l.fn.prim) l.fn.start (order_at l.fn.spots (direction_of l.fn.is_down)) l.fn.ops
