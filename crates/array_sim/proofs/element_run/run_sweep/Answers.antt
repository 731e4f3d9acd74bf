use Rattle.march_core.specs.Addresses.{direction_of}
use Rattle.array_sim.proofs.Runs.{element_goes_on, element_stops, element_ends}
use Rattle.array_sim.proofs.element_run.run_sweep.Goals as goal

pub returns-in-Some-clause-cells : goal.returns-in-Some-clause-cells
returns-in-Some-clause-cells c =
    (element_stops c.args.prim.now c.args.places c.loop-place.cells c.run_cell.new.cells c.args.element c.address_of-address.result
    c.args.ops.now (direction_of c.args.is_down) _ c.loop-place.place c.in-Some.miss c.run_cell.result _ c.loop-place-test.true
    c.address_of-address.ensures.value c.run_cell.ensures.cells c.run_cell.ensures.miss c.in-Some.is c.loop-place.invariant).0

pub returns-in-Some-clause-miss : goal.returns-in-Some-clause-miss
returns-in-Some-clause-miss c =
    (element_stops c.args.prim.now c.args.places c.loop-place.cells c.run_cell.new.cells c.args.element c.address_of-address.result
    c.args.ops.now (direction_of c.args.is_down) _ c.loop-place.place c.in-Some.miss c.run_cell.result _ c.loop-place-test.true
    c.address_of-address.ensures.value c.run_cell.ensures.cells c.run_cell.ensures.miss c.in-Some.is c.loop-place.invariant).1

pub loop-place-preserved : goal.loop-place-preserved
loop-place-preserved c =
    element_goes_on c.args.prim.now c.args.places c.loop-place.cells c.run_cell.new.cells c.args.element c.address_of-address.result
    c.args.ops.now (direction_of c.args.is_down) _ c.loop-place.place c.run_cell.result _ c.loop-place-test.true
    c.address_of-address.ensures.value c.run_cell.ensures.cells c.run_cell.ensures.miss c.in_default.is c.loop-place.invariant

pub returns-clause-cells : goal.returns-clause-cells
returns-clause-cells c =
    (element_ends c.args.prim.now c.args.places c.loop-place.cells c.args.element c.args.ops.now (direction_of c.args.is_down) _
    c.loop-place.place _ c.loop-place-test.false c.loop-place.invariant).0

pub returns-clause-miss : goal.returns-clause-miss
returns-clause-miss c =
    (element_ends c.args.prim.now c.args.places c.loop-place.cells c.args.element c.args.ops.now (direction_of c.args.is_down) _
    c.loop-place.place _ c.loop-place-test.false c.loop-place.invariant).1
