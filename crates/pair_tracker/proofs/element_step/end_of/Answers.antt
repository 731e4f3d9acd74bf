use Rattle.std.proofs.Common.{◌∙◌, Some, None, cond, ap, sym}
use Rattle.march_core.specs.Addresses.{direction_of}
use Rattle.march_core.specs.March.{pause, ops_at}
use Rattle.march_core.specs.Visits.{allows}
use Rattle.array_sim.proofs.Runs.{pause_there, sweep_there}
use Rattle.pair_tracker.specs.Few.{cells_run, end_of}
use Rattle.pair_tracker.proofs.element_step.end_of.Goals as goal

pub returns-then-is_down : goal.returns-then-is_down
returns-then-is_down g c =
    let m = g.F.FewCells.machine c.args.few.now in
    let order = g.F.FewCells.order c.args.few.now in
    sym (ap (λ e. end_of m order e c.args.start (direction_of c.args.is_down)) (pause_there c.args.march.now c.args.i c.requires.there (sym c.if-is_pause.ensures))
    ∙ ap (λ b. end_of m order pause c.args.start (direction_of b)) c.if-is_down.true)

pub returns-else-is_down : goal.returns-else-is_down
returns-else-is_down g c =
    let m = g.F.FewCells.machine c.args.few.now in
    let order = g.F.FewCells.order c.args.few.now in
    ap Some c.pause.ensures
    ∙ sym (ap (λ e. end_of m order e c.args.start (direction_of c.args.is_down)) (pause_there c.args.march.now c.args.i c.requires.there (sym c.if-is_pause.ensures))
    ∙ ap (λ b. end_of m order pause c.args.start (direction_of b)) c.if-is_down.false)

pub returns-then-not-does_allow : goal.returns-then-not-does_allow
returns-then-not-does_allow g c =
    let m = g.F.FewCells.machine c.args.few.now in
    let order = g.F.FewCells.order c.args.few.now in
    sym (ap (λ e. end_of m order e c.args.start (direction_of c.args.is_down)) (sweep_there c.args.march.now c.args.i c.requires.there (sym c.if-is_pause.ensures))
    ∙ ap (λ b. cond b (cells_run m c.args.start (order (direction_of c.args.is_down)) (ops_at c.args.march.now c.args.i)) None)
    (ap (λ way. allows way (direction_of c.args.is_down)) (sym c.order.ensures) ∙ sym c.does_allow.ensures ∙ c.if-not-does_allow.true))

pub returns : goal.returns
returns g c =
    let m = g.F.FewCells.machine c.args.few.now in
    let order = g.F.FewCells.order c.args.few.now in
    c.run_cells.ensures
    ∙ ap (λ ts. cells_run m c.args.start ts c.ops.result.now) c.cells.ensures
    ∙ ap (λ ops. cells_run m c.args.start (order (direction_of c.args.is_down)) ops) c.ops.ensures.value
    ∙ sym (ap (λ e. end_of m order e c.args.start (direction_of c.args.is_down)) (sweep_there c.args.march.now c.args.i c.requires.there (sym c.if-is_pause.ensures))
    ∙ ap (λ b. cond b (cells_run m c.args.start (order (direction_of c.args.is_down)) (ops_at c.args.march.now c.args.i)) None)
    (ap (λ way. allows way (direction_of c.args.is_down)) (sym c.order.ensures) ∙ sym c.does_allow.ensures ∙ c.if-not-does_allow.false))
