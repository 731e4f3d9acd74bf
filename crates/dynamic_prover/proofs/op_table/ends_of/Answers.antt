use Rattle.std.proofs.Common.{ap, ◌∙◌}
use Rattle.dynamic_prover.specs.declared.own_cells.OwnCells.{OwnCells}
use Rattle.pair_tracker.specs.Few.{ops_run}
use Rattle.dynamic_prover.specs.inner.Own.{machine_of}
use Rattle.dynamic_prover.proofs.Tables.{eight}
use Rattle.dynamic_prover.proofs.op_table.ends_of.Goals as goal

pub returns-clause-ends : goal.returns-clause-ends
returns-clause-ends c =
    eight (λ q. ops_run (machine_of c.args.prim.now) q c.args.on c.args.ops.now) _ _ _ _ _ _ _ _
    (c.run_ops.ensures ∙ ap (λ (q : OwnCells). ops_run (machine_of c.args.prim.now) q c.args.on c.args.ops.now) c.own_cells.ensures)
    (c.run_ops-2.ensures ∙ ap (λ (q : OwnCells). ops_run (machine_of c.args.prim.now) q c.args.on c.args.ops.now) c.own_cells-2.ensures)
    (c.run_ops-3.ensures ∙ ap (λ (q : OwnCells). ops_run (machine_of c.args.prim.now) q c.args.on c.args.ops.now) c.own_cells-3.ensures)
    (c.run_ops-4.ensures ∙ ap (λ (q : OwnCells). ops_run (machine_of c.args.prim.now) q c.args.on c.args.ops.now) c.own_cells-4.ensures)
    (c.run_ops-5.ensures ∙ ap (λ (q : OwnCells). ops_run (machine_of c.args.prim.now) q c.args.on c.args.ops.now) c.own_cells-5.ensures)
    (c.run_ops-6.ensures ∙ ap (λ (q : OwnCells). ops_run (machine_of c.args.prim.now) q c.args.on c.args.ops.now) c.own_cells-6.ensures)
    (c.run_ops-7.ensures ∙ ap (λ (q : OwnCells). ops_run (machine_of c.args.prim.now) q c.args.on c.args.ops.now) c.own_cells-7.ensures)
    (c.run_ops-8.ensures ∙ ap (λ (q : OwnCells). ops_run (machine_of c.args.prim.now) q c.args.on c.args.ops.now) c.own_cells-8.ensures)
