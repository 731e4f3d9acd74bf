-- Operations one behind another lead where the tables of single ones lead in turn.
use Rattle.std.proofs.Common.{◌≡◌, ◌+◌, ◌<◌, ℕ, Bool, true, false, cond, Option, Some, None, List, [], ◌∷◌, length, get_or, drop, refl, ap, sym, ◌∙◌}
use Rattle.std.specs.Option.{option_and_then}
use Rattle.std.proofs.lemmas.List.{drop_more}
use Rattle.march_core.specs.declared.operation.Op.{Op}
use Rattle.march_core.specs.declared.operation.Op.TheVariants.{W0}
use Rattle.march_core.specs.Operation.{is_wrong_of}
use Rattle.array_sim.specs.Run.{act_of}
use Rattle.cell_machine.specs.declared.pair.Side.{Side}
use Rattle.dynamic_core.specs.Primitive.{DynamicPrimitive}
use Rattle.dynamic_prover.specs.declared.own_cells.OwnCells.{OwnCells}
use Rattle.dynamic_prover.specs.declared.op_table.OpTable.{OpTable}
use Rattle.pair_tracker.specs.Few.{ops_run}
use Rattle.dynamic_prover.specs.inner.Own.{own_step, own_answer, machine_of}
use Rattle.dynamic_prover.specs.inner.Legs.{end_from}
use Rattle.dynamic_prover.specs.inner.OpTables.{ends_by, IsOpTable}

-- the first operation, and then the others
first_then : (p : DynamicPrimitive) (s : Side) (q : OwnCells) (op : Op) (ops : List Op)
    → ops_run (machine_of p) q s (op ∷ ops) ≡ option_and_then (λ r. ops_run (machine_of p) r s ops) (ops_run (machine_of p) q s (op ∷ []))
first_then p s q op ops = go (is_wrong_of op (own_answer p q s (act_of op)))
  where
    go : (wrong : Bool) → cond wrong None (ops_run (machine_of p) (own_step p q s (act_of op)) s ops)
        ≡ option_and_then (λ r. ops_run (machine_of p) r s ops) (cond wrong None (Some (own_step p q s (act_of op))))
    go true = refl
    go false = refl

-- the operations from one on, where its table leads
pub looked_up : (p : DynamicPrimitive) (s : Side) (t : OpTable) (q : OwnCells) (ops : List Op) (i : ℕ) (op : Op) (end : Option OwnCells) → IsOpTable p s t → i < length ops
    → op ≡ get_or ops i W0 → end ≡ end_from (ends_by t op) q → ops_run (machine_of p) q s (drop i ops) ≡ option_and_then (λ r. ops_run (machine_of p) r s (drop (i + 1) ops)) end
looked_up p s t q ops i op end is within op_is end_is =
    ap (ops_run (machine_of p) q s) (drop_more ops i W0 within ∙ ap (λ o. o ∷ drop (i + 1) ops) (sym op_is))
    ∙ first_then p s q op (drop (i + 1) ops)
    ∙ ap (option_and_then (λ r. ops_run (machine_of p) r s (drop (i + 1) ops))) (sym (end_is ∙ is op q))
