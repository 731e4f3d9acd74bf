use Rattle.std.proofs.Common.{◌+◌, drop, refl, ap, sym, ◌∙◌}
use Rattle.std.specs.Option.{option_and_then}
use Rattle.dynamic_prover.specs.declared.own_cells.OwnCells.{OwnCells}
use Rattle.pair_tracker.specs.Few.{ops_run}
use Rattle.dynamic_prover.specs.inner.Own.{machine_of}
use Rattle.dynamic_prover.proofs.OpTables.{looked_up}
use Rattle.dynamic_prover.proofs.op_table.OpTable.run.Goals as goal

pub returns-in_default : goal.returns-in_default
returns-in_default c p s is =
    let i = c.loop-op.op-index in
    let next = looked_up p s c.args.self.now c.loop-op.own c.args.ops.now i _ c.end.result is c.loop-op-test.true refl c.end.ensures in
    sym (next ∙ ap (option_and_then (λ (r : OwnCells). ops_run (machine_of p) r s (drop (i + 1) c.args.ops.now))) c.in_default.is) ∙ c.loop-op.invariant p s is

pub loop-op-preserved : goal.loop-op-preserved
loop-op-preserved c p s is =
    let i = c.loop-op.op-index in
    let next = looked_up p s c.args.self.now c.loop-op.own c.args.ops.now i _ c.end.result is c.loop-op-test.true refl c.end.ensures in
    sym (next ∙ ap (option_and_then (λ (r : OwnCells). ops_run (machine_of p) r s (drop (i + 1) c.args.ops.now))) c.in-Some.is) ∙ c.loop-op.invariant p s is
