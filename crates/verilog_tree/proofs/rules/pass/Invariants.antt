use Rattle.std.proofs.Common.{◌≡◌, map, drop}
use Rattle.verilog_tree.specs.inner.Seen.{mention}
use Rattle.verilog_tree.specs.inner.Tables.{with_targets}
use Rattle.verilog_tree.proofs.rules.pass.Given as goal

abbrev pub invariant-loop-next : goal.invariant-loop-next
invariant-loop-next l =
    (with_targets l.before.set (map mention (drop l.next-index l.all)) ≡ with_targets l.initial.before.set (map mention l.all))
    × (l.before.declared ≡ l.initial.before.declared)
    × (l.before.assigned ≡ l.initial.before.assigned)
