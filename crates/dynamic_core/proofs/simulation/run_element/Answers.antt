use Rattle.std.proofs.Common.{List, ◌∙◌, ap, sym, length}
use Rattle.march_core.specs.Visits.{MarchStep, direction_at}
use Rattle.array_sim.proofs.Runs.{pause_visits, sweep_visits}
use Rattle.dynamic_core.specs.Dynamic.{held_as}
use Rattle.dynamic_core.specs.inner.Dynamic.{dyn_run}
use Rattle.dynamic_core.proofs.simulation.run_element.Goals as goal

pub returns-then-is_pause : goal.returns-then-is_pause
returns-then-is_pause c =
    let visits = pause_visits c.args.march.now c.args.element (direction_at c.args.directions c.args.element) (length c.args.cells.now) c.requires.there (sym c.if-is_pause.ensures) in
    sym (ap (λ (steps : List MarchStep). dyn_run c.args.prim.now c.args.places (held_as c.args.cells.now c.args.armed.now) steps) visits)

pub returns : goal.returns
returns c =
    let visits = sweep_visits c.args.march.now c.args.element c.args.directions (length c.args.cells.now) c.ops.result.now c.is_down-down.result c.requires.there (sym c.if-is_pause.ensures)
    c.ops.ensures.value c.is_down-down.ensures.value in
    c.run_sweep.ensures ∙ ap (λ (steps : List MarchStep). dyn_run c.args.prim.now c.args.places (held_as c.args.cells.now c.args.armed.now) steps) (sym visits)
