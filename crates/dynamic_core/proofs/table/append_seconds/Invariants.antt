use Rattle.std.proofs.Common.{◌≡◌, ◌++◌, take, map}
use Rattle.dynamic_core.specs.Table.{acting}
use Rattle.dynamic_core.proofs.table.append_seconds.Given as goal

abbrev pub invariant-loop-second : goal.invariant-loop-second
invariant-loop-second l = l.senses.items ≡ l.initial.senses.items ++ map (acting l.state l.first) (take l.second-index l.second-items)
