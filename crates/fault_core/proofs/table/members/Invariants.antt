use Rattle.std.proofs.Common.{◌≡◌, take}
use Rattle.fault_core.specs.inner.Rows.{rows_of}
use Rattle.fault_core.proofs.table.members.Given as goal

abbrev pub invariant-loop-agg : goal.invariant-loop-agg
invariant-loop-agg l = l.prims.items ≡ rows_of l.class (take l.agg-index l.agg-items)
