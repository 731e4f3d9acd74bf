use Rattle.std.proofs.Common.{◌≡◌, drop}
use Rattle.cell_machine.specs.declared.pair.Side.{Side}
use Rattle.dynamic_core.specs.Primitive.{DynamicPrimitive}
use Rattle.pair_tracker.specs.Few.{ops_run}
use Rattle.dynamic_prover.specs.inner.Own.{machine_of}
use Rattle.dynamic_prover.specs.inner.OpTables.{IsOpTable}
use Rattle.dynamic_prover.proofs.op_table.OpTable.run.Given as goal

abbrev pub invariant-loop-op : goal.invariant-loop-op
invariant-loop-op l = (p : DynamicPrimitive) (s : Side) → IsOpTable p s l.self → ops_run (machine_of p) l.own s (drop l.op-index l.ops) ≡ ops_run (machine_of p) l.fn.start s l.ops
