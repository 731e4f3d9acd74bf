use Rattle.std.proofs.Common.{◌≡◌, drop}
use Rattle.march_core.specs.Visits.{cell_visits}
use Rattle.march_core.specs.inner.Addresses.{steps_of}
use Rattle.dynamic_core.specs.Dynamic.{held_as}
use Rattle.dynamic_core.specs.inner.Dynamic.{dyn_run}
use Rattle.dynamic_core.proofs.simulation.run_cell.Given as goal

abbrev pub invariant-loop-number : goal.invariant-loop-number
invariant-loop-number l =
    dyn_run l.prim l.places (held_as l.cells l.armed) (steps_of (cell_visits l.element l.address l.number (drop l.number l.ops)))
    ≡ dyn_run l.prim l.places (held_as l.fn.cells l.fn.armed) (steps_of (cell_visits l.element l.address 0 l.ops))
