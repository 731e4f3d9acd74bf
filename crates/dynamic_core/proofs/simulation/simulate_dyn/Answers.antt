use Rattle.std.proofs.Common.{false, ap, length, ◌∙◌, sym}
use Rattle.march_core.specs.Visits.{visits, directions_of}
use Rattle.dynamic_core.specs.Dynamic.{Held, held_as}
use Rattle.dynamic_core.specs.inner.Dynamic.{miss_of, held_of}
use Rattle.dynamic_core.specs.Instances.{dyn_places}
use Rattle.dynamic_core.proofs.Runs.{ending_miss, ending_held}
use Rattle.dynamic_core.proofs.Differing.{found, all_left, stopped}
use Rattle.dynamic_core.proofs.simulation.simulate_dyn.Goals as goal

pub returns-clause-caught : goal.returns-clause-caught
returns-clause-caught c =
    (found c.args.instance.now.prim (dyn_places c.args.instance.now) (held_as c.args.cells.now false)
    (visits c.args.march.now (directions_of c.args.directions (length c.args.march.now)) (length c.args.cells.now)) c.run_elements.result
    (ending_miss c.run_elements.result (held_as c.run_elements.new.cells c.run_elements.new.armed) ∙ ap miss_of c.run_elements.ensures)).0

pub returns-clause-first : goal.returns-clause-first
returns-clause-first c =
    (found c.args.instance.now.prim (dyn_places c.args.instance.now) (held_as c.args.cells.now false)
    (visits c.args.march.now (directions_of c.args.directions (length c.args.march.now)) (length c.args.cells.now)) c.run_elements.result
    (ending_miss c.run_elements.result (held_as c.run_elements.new.cells c.run_elements.new.armed) ∙ ap miss_of c.run_elements.ensures)).1

pub returns-clause-passed : goal.returns-clause-passed
returns-clause-passed c = λ none.
    ap (λ (h : Held). h.cells)
    (ending_held c.run_elements.result (held_as c.run_elements.new.cells c.run_elements.new.armed) ∙ ap held_of c.run_elements.ensures
    ∙ all_left c.args.instance.now.prim (dyn_places c.args.instance.now) (held_as c.args.cells.now false)
    (visits c.args.march.now (directions_of c.args.directions (length c.args.march.now)) (length c.args.cells.now))
    (sym (ending_miss c.run_elements.result (held_as c.run_elements.new.cells c.run_elements.new.armed) ∙ ap miss_of c.run_elements.ensures) ∙ none))

pub returns-clause-stopped : goal.returns-clause-stopped
returns-clause-stopped c =
    stopped c.args.instance.now.prim (dyn_places c.args.instance.now) (held_as c.args.cells.now false)
    (visits c.args.march.now (directions_of c.args.directions (length c.args.march.now)) (length c.args.cells.now)) c.run_elements.result
    (held_as c.run_elements.new.cells c.run_elements.new.armed)
    (ending_miss c.run_elements.result (held_as c.run_elements.new.cells c.run_elements.new.armed) ∙ ap miss_of c.run_elements.ensures)
    (ending_held c.run_elements.result (held_as c.run_elements.new.cells c.run_elements.new.armed) ∙ ap held_of c.run_elements.ensures)
