use Rattle.std.proofs.Common.{arith}
use Rattle.array_sim.proofs.Runs.{march_goes_on, march_stops, march_ends}
use Rattle.array_sim.proofs.simulation.run_elements.Goals as goal

pub returns-in-Some-clause-cells : goal.returns-in-Some-clause-cells
returns-in-Some-clause-cells c =
    (march_stops c.args.prim.now c.args.places c.args.march.now c.args.directions c.loop-element.element _
    c.loop-element.cells c.run_element.new.cells c.in-Some.miss c.run_element.result _ (omega arith)
    (omega arith) c.run_element.ensures.cells c.run_element.ensures.miss c.in-Some.is c.loop-element.invariant).0

pub returns-in-Some-clause-miss : goal.returns-in-Some-clause-miss
returns-in-Some-clause-miss c =
    (march_stops c.args.prim.now c.args.places c.args.march.now c.args.directions c.loop-element.element _
    c.loop-element.cells c.run_element.new.cells c.in-Some.miss c.run_element.result _ (omega arith)
    (omega arith) c.run_element.ensures.cells c.run_element.ensures.miss c.in-Some.is c.loop-element.invariant).1

pub loop-element-preserved : goal.loop-element-preserved
loop-element-preserved c =
    march_goes_on c.args.prim.now c.args.places c.args.march.now c.args.directions c.loop-element.element _
    c.loop-element.cells c.run_element.new.cells c.run_element.result _ (omega arith)
    (omega arith) c.run_element.ensures.cells c.run_element.ensures.miss c.in_default.is c.loop-element.invariant

pub returns-clause-cells : goal.returns-clause-cells
returns-clause-cells c =
    (march_ends c.args.prim.now c.args.places c.args.march.now c.args.directions c.loop-element.element _
    c.loop-element.cells _ (omega arith) c.loop-element.invariant).0

pub returns-clause-miss : goal.returns-clause-miss
returns-clause-miss c =
    (march_ends c.args.prim.now c.args.places c.args.march.now c.args.directions c.loop-element.element _
    c.loop-element.cells _ (omega arith) c.loop-element.invariant).1
