use Rattle.std.proofs.Common.{ap, ◌∙◌}
use Rattle.dynamic_prover.specs.declared.own_cells.OwnCells.{OwnCells}
use Rattle.pair_tracker.specs.Few.{ops_run}
use Rattle.dynamic_prover.specs.inner.Own.{machine_of}
use Rattle.dynamic_prover.proofs.Tables.{eight}
use Rattle.dynamic_prover.proofs.op_table.OpTable.ends.Goals as goal

pub returns-clause-ends : goal.returns-clause-ends
returns-clause-ends c p s is =
    eight (λ q. ops_run (machine_of p) q s c.args.ops.now) _ _ _ _ _ _ _ _
    (c.run.ensures p s is ∙ ap (λ (q : OwnCells). ops_run (machine_of p) q s c.args.ops.now) c.own_cells.ensures)
    (c.run-2.ensures p s is ∙ ap (λ (q : OwnCells). ops_run (machine_of p) q s c.args.ops.now) c.own_cells-2.ensures)
    (c.run-3.ensures p s is ∙ ap (λ (q : OwnCells). ops_run (machine_of p) q s c.args.ops.now) c.own_cells-3.ensures)
    (c.run-4.ensures p s is ∙ ap (λ (q : OwnCells). ops_run (machine_of p) q s c.args.ops.now) c.own_cells-4.ensures)
    (c.run-5.ensures p s is ∙ ap (λ (q : OwnCells). ops_run (machine_of p) q s c.args.ops.now) c.own_cells-5.ensures)
    (c.run-6.ensures p s is ∙ ap (λ (q : OwnCells). ops_run (machine_of p) q s c.args.ops.now) c.own_cells-6.ensures)
    (c.run-7.ensures p s is ∙ ap (λ (q : OwnCells). ops_run (machine_of p) q s c.args.ops.now) c.own_cells-7.ensures)
    (c.run-8.ensures p s is ∙ ap (λ (q : OwnCells). ops_run (machine_of p) q s c.args.ops.now) c.own_cells-8.ensures)
