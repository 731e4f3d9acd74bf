use Rattle.std.proofs.Common.{sym, ap, ◌∙◌}
use Rattle.march_core.specs.March.{sweep, order_at}
use Rattle.rtl_gen.specs.inner.Planned.{element_of}
use Rattle.rtl_gen.proofs.Listed.{at_pause, at_sweep}
use Rattle.rtl_gen.proofs.tables.element.Goals as goal

pub returns-then-is_pause : goal.returns-then-is_pause
returns-then-is_pause c = c.paused.ensures ∙ ap element_of (at_pause c.args.march.now c.args.i (sym c.is_pause.ensures ∙ c.if-is_pause.true))

pub returns : goal.returns
returns c =
    c.swept.ensures
    ∙ ap (λ o. element_of (sweep o c.ops.result.now)) c.order.ensures
    ∙ ap (λ l. element_of (sweep (order_at c.args.march.now c.args.i) l)) c.ops.ensures.value
    ∙ ap element_of (at_sweep c.args.march.now c.args.i c.requires (sym c.is_pause.ensures ∙ c.if-is_pause.false))
