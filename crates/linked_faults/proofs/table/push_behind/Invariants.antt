use Rattle.std.proofs.Common.{◌≡◌, ◌++◌, take}
use Rattle.linked_faults.specs.inner.Testing.{linked_behind}
use Rattle.linked_faults.proofs.table.push_behind.Given as goal

abbrev pub invariant-loop-second : goal.invariant-loop-second
invariant-loop-second l = l.links.items ≡ l.initial.links.items ++ linked_behind l.is_shared (take l.second-index l.seconds) l.first
