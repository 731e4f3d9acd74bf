-- Inner. Only helps proofs: the tables of single operations, from which those of an element are looked up.
use Rattle.std.specs.Prelude.{◌≡◌, Option, List, [], ◌∷◌}
use Rattle.march_core.specs.declared.operation.Op.{Op}
use Rattle.march_core.specs.declared.operation.Op.TheVariants.{W0, W1, R0, R1}
use Rattle.cell_machine.specs.declared.pair.Side.{Side}
use Rattle.dynamic_core.specs.Primitive.{DynamicPrimitive}
use Rattle.dynamic_prover.specs.declared.own_cells.OwnCells.{OwnCells}
use Rattle.dynamic_prover.specs.declared.op_table.OpTable.{OpTable}
use Rattle.pair_tracker.specs.Few.{ops_run}
use Rattle.dynamic_prover.specs.inner.Own.{machine_of}
use Rattle.dynamic_prover.specs.inner.Legs.{end_from}

abbrev pub ends_by : OpTable → Op → List (Option OwnCells)
ends_by t W0 = t.write_0
ends_by t W1 = t.write_1
ends_by t R0 = t.read_0
ends_by t R1 = t.read_1

-- a table leads where each operation on this cell leads
abbrev pub IsOpTable : DynamicPrimitive → Side → OpTable → Type 0
IsOpTable p s t = (op : Op) (q : OwnCells) → end_from (ends_by t op) q ≡ ops_run (machine_of p) q s (op ∷ [])
