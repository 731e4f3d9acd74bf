use Rattle.std.proofs.Common.{◌≡◌, map, drop}
use Rattle.verilog_tree.specs.Plain.{plain_item}
use Rattle.verilog_tree.specs.Names.{width_of}
use Rattle.verilog_tree.specs.inner.Seen.{mention}
use Rattle.verilog_tree.specs.inner.Tables.{first_broken}
use Rattle.verilog_tree.proofs.rules.keeps.Given as goal

abbrev pub invariant-loop-next : goal.invariant-loop-next
invariant-loop-next l = first_broken l.rule (width_of l.widths) l.before.declared l.before.set (plain_item l.item) (map mention (drop l.next-index l.all)) ≡ first_broken l.rule (width_of l.widths) l.before.declared l.before.set (plain_item l.item) (map mention l.all)
