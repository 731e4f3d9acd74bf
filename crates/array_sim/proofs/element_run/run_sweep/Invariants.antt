use Rattle.std.proofs.Common.{◌≡◌, length}
use Rattle.march_core.specs.Visits.{address_visits, addresses}
use Rattle.array_sim.specs.inner.Run.{run_of}
use Rattle.march_core.specs.Addresses.{direction_of}
use Rattle.march_core.specs.inner.Addresses.{steps_of}
use Rattle.array_sim.proofs.Runs.{visits_rest}
use Rattle.array_sim.proofs.element_run.run_sweep.Given as goal

abbrev pub invariant-loop-place : goal.invariant-loop-place
invariant-loop-place l =
    run_of l.prim l.places l.cells (visits_rest l.element l.ops (direction_of l.is_down) (length l.fn.cells) l.place)
    ≡ run_of l.prim l.places l.fn.cells (steps_of (address_visits l.element l.ops (addresses (direction_of l.is_down) (length l.fn.cells))))
