use Rattle.std.proofs.Common.{sym, ◌∙◌, ◌≡◌}
use Rattle.march_core.specs.March.{pause, sweep, element_at, order_at, ops_at}
use Rattle.march_syntax.proofs.PrintLaws.{pause_there, sweep_there}
use Rattle.march_syntax.proofs.print.write_element.Goals as goal

pub returns-then-is_pause : goal.returns-then-is_pause
returns-then-is_pause c =
    let e : element_at c.args.march.now c.args.i ≡ pause = pause_there c.args.march.now c.args.i (sym c.is_pause.ensures ∙ c.if-is_pause.true) in
    rw e c.write_pause.ensures

pub returns-else-is_pause : goal.returns-else-is_pause
returns-else-is_pause c =
    let e : element_at c.args.march.now c.args.i ≡ sweep (order_at c.args.march.now c.args.i) (ops_at c.args.march.now c.args.i) =
    sweep_there c.args.march.now c.args.i c.requires (sym c.is_pause.ensures ∙ c.if-is_pause.false) in
    rw (e, ← c.order.ensures, ← c.ops.ensures.value) c.write_sweep.ensures
