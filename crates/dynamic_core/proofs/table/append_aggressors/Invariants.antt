use Rattle.std.proofs.Common.{◌≡◌, ◌++◌, take}
use Rattle.std.specs.List.{flat_map}
use Rattle.dynamic_core.specs.Table.{disturbs}
use Rattle.dynamic_core.proofs.table.append_aggressors.Given as goal

abbrev pub invariant-loop-agg : goal.invariant-loop-agg
invariant-loop-agg g l = l.prims.items ≡ l.initial.prims.items ++ flat_map disturbs (take l.agg-index l.agg-items)
