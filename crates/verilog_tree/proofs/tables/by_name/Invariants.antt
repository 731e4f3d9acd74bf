use Rattle.std.proofs.Common.{◌≡◌, [], map, drop}
use Rattle.verilog_tree.specs.Seen.{declaration}
use Rattle.verilog_tree.specs.inner.Tables.{with_all}
use Rattle.verilog_tree.proofs.tables.by_name.Given as goal

abbrev pub invariant-loop-next : goal.invariant-loop-next
invariant-loop-next l = with_all l.all (map declaration (drop l.next-index l.declared)) ≡ with_all [] (map declaration l.declared)
