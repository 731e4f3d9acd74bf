use Rattle.std.proofs.Common.{◌≡◌, length}
use Rattle.march_core.specs.Visits.{address_visits, addresses}
use Rattle.march_core.specs.Addresses.{direction_of}
use Rattle.march_core.specs.inner.Addresses.{steps_of}
use Rattle.array_sim.proofs.Runs.{visits_rest}
use Rattle.dynamic_core.specs.Dynamic.{held_as}
use Rattle.dynamic_core.specs.inner.Dynamic.{dyn_run}
use Rattle.dynamic_core.proofs.simulation.run_sweep.Given as goal

abbrev pub invariant-loop-place : goal.invariant-loop-place
invariant-loop-place l =
    dyn_run l.prim l.places (held_as l.cells l.armed) (visits_rest l.element l.ops (direction_of l.is_down) (length l.fn.cells) l.place)
    ≡ dyn_run l.prim l.places (held_as l.fn.cells l.fn.armed) (steps_of (address_visits l.element l.ops (addresses (direction_of l.is_down) (length l.fn.cells))))
