use Rattle.std.proofs.Common.{◌≡◌, length}
use Rattle.march_core.specs.Visits.{visits, directions_of}
use Rattle.array_sim.specs.inner.Run.{run_of}
use Rattle.array_sim.proofs.Runs.{march_rest}
use Rattle.array_sim.proofs.simulation.run_elements.Given as goal

abbrev pub invariant-loop-element : goal.invariant-loop-element
invariant-loop-element l =
    run_of l.prim l.places l.cells (march_rest l.march l.directions l.element (length l.fn.cells))
    ≡ run_of l.prim l.places l.fn.cells (visits l.march (directions_of l.directions (length l.march)) (length l.fn.cells))
