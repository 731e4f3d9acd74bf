use Rattle.std.proofs.Common.{◌≡◌, map, drop}
use Rattle.verilog_tree.specs.Seen.{declaration}
use Rattle.verilog_tree.specs.inner.Tables.{among, unassigned}
use Rattle.verilog_tree.proofs.rules.driven.Given as goal

abbrev pub invariant-loop-next : goal.invariant-loop-next
invariant-loop-next l = unassigned (among l.assigned) (map declaration (drop l.next-index l.all)) ≡ unassigned (among l.assigned) (map declaration l.all)
