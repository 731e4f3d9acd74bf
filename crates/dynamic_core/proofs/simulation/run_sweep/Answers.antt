use Rattle.march_core.specs.Addresses.{direction_of}
use Rattle.dynamic_core.specs.Dynamic.{held_as}
use Rattle.dynamic_core.proofs.Runs.{sweep_goes_on, sweep_stops, sweep_ends}
use Rattle.dynamic_core.proofs.simulation.run_sweep.Goals as goal

pub returns-in-Some : goal.returns-in-Some
returns-in-Some c =
    sweep_stops c.args.prim.now c.args.places (held_as c.loop-place.cells c.loop-place.armed) (held_as c.run_cell.new.cells c.run_cell.new.armed) c.in-Some.miss c.run_cell.result
    c.args.element c.address_of-address.result c.args.ops.now (direction_of c.args.is_down) _ c.loop-place.place _ c.loop-place-test.true c.address_of-address.ensures.value
    c.run_cell.ensures c.in-Some.is c.loop-place.invariant

pub loop-place-preserved : goal.loop-place-preserved
loop-place-preserved c =
    sweep_goes_on c.args.prim.now c.args.places (held_as c.loop-place.cells c.loop-place.armed) (held_as c.run_cell.new.cells c.run_cell.new.armed) c.run_cell.result
    c.args.element c.address_of-address.result c.args.ops.now (direction_of c.args.is_down) _ c.loop-place.place _ c.loop-place-test.true c.address_of-address.ensures.value
    c.run_cell.ensures c.in_default.is c.loop-place.invariant

pub returns : goal.returns
returns c =
    sweep_ends c.args.prim.now c.args.places (held_as c.loop-place.cells c.loop-place.armed) c.args.element c.args.ops.now (direction_of c.args.is_down) _
    c.loop-place.place _ c.loop-place-test.false c.loop-place.invariant
