use Rattle.std.proofs.Common.{sym}
use Rattle.cell_machine.specs.declared.pair.Side.TheVariants.{A, V}
use Rattle.dynamic_prover.proofs.Tables.{pause_found, sweep_found}
use Rattle.dynamic_prover.proofs.leg.leg_of.Goals as goal

pub returns-then-is_pause : goal.returns-then-is_pause
returns-then-is_pause c p on_aggressor on_victim = pause_found p c.args.march.now c.args.element c.requires (sym c.if-is_pause.ensures)

pub returns : goal.returns
returns c p on_aggressor on_victim =
    sweep_found p c.args.march.now c.args.element c.ops-ops.result.now _ c.requires (sym c.if-is_pause.ensures) c.ops-ops.ensures.value c.order.ensures
    (record { some = c.ops-ops.ensures.some (sym c.if-is_pause.ensures); aggressor = c.ends.ensures.ends p A on_aggressor; victim = c.ends-2.ensures.ends p V on_victim })
