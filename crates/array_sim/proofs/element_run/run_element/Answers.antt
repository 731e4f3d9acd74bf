use Rattle.std.proofs.Common.{List, ◌∙◌, ap, sym, length}
use Rattle.march_core.specs.Visits.{MarchStep, direction_at}
use Rattle.array_sim.specs.inner.Run.{run_of}
use Rattle.array_sim.proofs.Runs.{pause_visits, sweep_visits}
use Rattle.array_sim.proofs.element_run.run_element.Goals as goal

pub returns-then-is_pause-clause-cells : goal.returns-then-is_pause-clause-cells
returns-then-is_pause-clause-cells c =
    let visits = pause_visits c.args.march.now c.args.element (direction_at c.args.directions c.args.element) (length c.args.cells.now) c.requires.there (sym c.if-is_pause.ensures) in
    c.pause_cells.ensures ∙ ap (λ (steps : List MarchStep). (run_of c.args.prim.now c.args.places c.args.cells.now steps).cells) (sym visits)

pub returns-then-is_pause-clause-miss : goal.returns-then-is_pause-clause-miss
returns-then-is_pause-clause-miss c =
    let visits = pause_visits c.args.march.now c.args.element (direction_at c.args.directions c.args.element) (length c.args.cells.now) c.requires.there (sym c.if-is_pause.ensures) in
    ap (λ (steps : List MarchStep). (run_of c.args.prim.now c.args.places c.args.cells.now steps).miss) (sym visits)

pub returns-clause-cells : goal.returns-clause-cells
returns-clause-cells c =
    let visits = sweep_visits c.args.march.now c.args.element c.args.directions (length c.args.cells.now) c.ops.result.now c.is_down-down.result c.requires.there (sym c.if-is_pause.ensures)
    c.ops.ensures.value c.is_down-down.ensures.value in
    c.run_sweep.ensures.cells ∙ ap (λ (steps : List MarchStep). (run_of c.args.prim.now c.args.places c.args.cells.now steps).cells) (sym visits)

pub returns-clause-miss : goal.returns-clause-miss
returns-clause-miss c =
    let visits = sweep_visits c.args.march.now c.args.element c.args.directions (length c.args.cells.now) c.ops.result.now c.is_down-down.result c.requires.there (sym c.if-is_pause.ensures)
    c.ops.ensures.value c.is_down-down.ensures.value in
    c.run_sweep.ensures.miss ∙ ap (λ (steps : List MarchStep). (run_of c.args.prim.now c.args.places c.args.cells.now steps).miss) (sym visits)
