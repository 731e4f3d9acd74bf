use Rattle.std.proofs.Common.{arith}
use Rattle.dynamic_core.specs.Dynamic.{held_as}
use Rattle.dynamic_core.proofs.Runs.{march_goes_on, march_stops}
use Rattle.dynamic_core.proofs.simulation.run_elements.Goals as goal

pub returns-in-Some : goal.returns-in-Some
returns-in-Some c =
    march_stops c.args.prim.now c.args.places (held_as c.loop-element.cells c.loop-element.armed) (held_as c.run_element.new.cells c.run_element.new.armed) c.in-Some.miss c.run_element.result
    c.args.march.now c.args.directions c.loop-element.element _ _ (omega arith) (omega arith) c.run_element.ensures c.in-Some.is c.loop-element.invariant

pub loop-element-preserved : goal.loop-element-preserved
loop-element-preserved c =
    march_goes_on c.args.prim.now c.args.places (held_as c.loop-element.cells c.loop-element.armed) (held_as c.run_element.new.cells c.run_element.new.armed) c.run_element.result
    c.args.march.now c.args.directions c.loop-element.element _ _ (omega arith) (omega arith) c.run_element.ensures c.in_default.is c.loop-element.invariant
