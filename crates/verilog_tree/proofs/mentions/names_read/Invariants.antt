use Rattle.std.proofs.Common.{◌≡◌, ◌++◌, map, drop}
use Rattle.verilog_tree.specs.Rules.{mentioned}
use Rattle.verilog_tree.specs.inner.Seen.{mention}
use Rattle.verilog_tree.proofs.mentions.names_read.Given as goal

abbrev pub invariant-loop-next : goal.invariant-loop-next
invariant-loop-next l = map (λ n. n.bytes) l.names.items ++ map mentioned (map mention (drop l.next-index l.next-items)) ≡ map mentioned (map mention l.next-items)
