use Rattle.std.proofs.Common.{◌∙◌, Some, None, cond, ap, sym}
use Rattle.march_core.specs.Addresses.{direction_of}
use Rattle.march_core.specs.March.{pause, ops_at}
use Rattle.march_core.specs.Visits.{allows}
use Rattle.array_sim.proofs.Runs.{pause_there, sweep_there}
use Rattle.pair_tracker.specs.Few.{cells_run}
use Rattle.sequence_faults.specs.inner.Few.{machine_of, order_at}
use Rattle.sequence_faults.specs.inner.Searching.{lead_at}
use Rattle.sequence_faults.proofs.few.end_of.Goals as goal

pub returns-then-is_down : goal.returns-then-is_down
returns-then-is_down c =
    sym (ap (λ e. lead_at c.args.prim.now c.args.spots e c.args.start (direction_of c.args.is_down)) (pause_there c.args.march.now c.args.i c.requires (sym c.if-is_pause.ensures))
    ∙ ap (λ b. lead_at c.args.prim.now c.args.spots pause c.args.start (direction_of b)) c.if-is_down.true)

pub returns-else-is_down : goal.returns-else-is_down
returns-else-is_down c =
    ap Some c.passed.ensures
    ∙ sym (ap (λ e. lead_at c.args.prim.now c.args.spots e c.args.start (direction_of c.args.is_down)) (pause_there c.args.march.now c.args.i c.requires (sym c.if-is_pause.ensures))
    ∙ ap (λ b. lead_at c.args.prim.now c.args.spots pause c.args.start (direction_of b)) c.if-is_down.false)

pub returns-then-not-does_allow : goal.returns-then-not-does_allow
returns-then-not-does_allow c =
    let d = direction_of c.args.is_down in
    let rest = cells_run (machine_of c.args.prim.now) c.args.start (order_at c.args.spots d) (ops_at c.args.march.now c.args.i) in
    sym (ap (λ e. lead_at c.args.prim.now c.args.spots e c.args.start d) (sweep_there c.args.march.now c.args.i c.requires (sym c.if-is_pause.ensures))
    ∙ ap (λ b. cond b rest None) (ap (λ way. allows way d) (sym c.order.ensures) ∙ sym c.does_allow.ensures ∙ c.if-not-does_allow.true))

pub returns : goal.returns
returns c =
    let d = direction_of c.args.is_down in
    let rest = cells_run (machine_of c.args.prim.now) c.args.start (order_at c.args.spots d) (ops_at c.args.march.now c.args.i) in
    c.run_cells.ensures
    ∙ ap (λ ops. cells_run (machine_of c.args.prim.now) c.args.start (order_at c.args.spots d) ops) c.ops.ensures.value
    ∙ sym (ap (λ e. lead_at c.args.prim.now c.args.spots e c.args.start d) (sweep_there c.args.march.now c.args.i c.requires (sym c.if-is_pause.ensures))
    ∙ ap (λ b. cond b rest None) (ap (λ way. allows way d) (sym c.order.ensures) ∙ sym c.does_allow.ensures ∙ c.if-not-does_allow.false))
