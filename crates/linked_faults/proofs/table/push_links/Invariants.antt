use Rattle.std.proofs.Common.{◌≡◌, ◌++◌, take}
use Rattle.linked_faults.specs.inner.Testing.{linked_pairs}
use Rattle.linked_faults.proofs.table.push_links.Given as goal

abbrev pub invariant-loop-first : goal.invariant-loop-first
invariant-loop-first l = l.links.items ≡ l.initial.links.items ++ linked_pairs (take l.first-index l.firsts) l.seconds l.is_shared
