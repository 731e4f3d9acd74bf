use Rattle.std.proofs.Common.{◌≡◌, ◌++◌, take}
use Rattle.std.specs.List.{flat_map}
use Rattle.dynamic_core.specs.Table.{wrong_acts}
use Rattle.dynamic_core.proofs.table.append_victims.Given as goal

abbrev pub invariant-loop-vic : goal.invariant-loop-vic
invariant-loop-vic g l = l.prims.items ≡ l.initial.prims.items ++ flat_map (wrong_acts l.agg) (take l.vic-index l.vic-items)
