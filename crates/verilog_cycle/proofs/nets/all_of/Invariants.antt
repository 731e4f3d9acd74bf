use Rattle.std.proofs.Common.{◌≡◌, ◌++◌, map, drop}
use Rattle.std.specs.List.{filter}
use Rattle.verilog_tree.specs.Seen.{declaration}
use Rattle.verilog_cycle.specs.inner.Kinds.{is_of}
use Rattle.verilog_cycle.proofs.nets.all_of.Given as goal

abbrev pub invariant-loop-next : goal.invariant-loop-next
invariant-loop-next l = map declaration l.all.items ++ filter (is_of l.kind) (map declaration (drop l.next-index l.declared)) ≡ filter (is_of l.kind) (map declaration l.declared)
