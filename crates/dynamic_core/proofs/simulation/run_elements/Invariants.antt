use Rattle.std.proofs.Common.{◌≡◌, length}
use Rattle.march_core.specs.Visits.{directions_of}
use Rattle.array_sim.proofs.Runs.{march_rest}
use Rattle.dynamic_core.specs.Dynamic.{held_as}
use Rattle.dynamic_core.specs.inner.Dynamic.{dyn_run}
use Rattle.dynamic_core.specs.inner.Detecting.{ending_of}
use Rattle.dynamic_core.proofs.simulation.run_elements.Given as goal

abbrev pub invariant-loop-element : goal.invariant-loop-element
invariant-loop-element l =
    dyn_run l.prim l.places (held_as l.cells l.armed) (march_rest l.march l.directions l.element (length l.fn.cells))
    ≡ ending_of l.march (directions_of l.directions (length l.march)) l.prim l.places l.fn.cells
