use Rattle.std.proofs.Common.{◌≡◌, ◌++◌, take, map}
use Rattle.std.specs.List.{flat_map}
use Rattle.dynamic_core.specs.Table.{acting, accesses}
use Rattle.dynamic_core.proofs.table.append_acting.Given as goal

abbrev pub invariant-loop-first : goal.invariant-loop-first
invariant-loop-first l =
    l.senses.items ≡ l.initial.senses.items ++ flat_map (λ first. map (acting l.state first) accesses) (take l.first-index l.first-items)
