use Rattle.std.proofs.Common.{◌≡◌, ◌++◌, map, drop}
use Rattle.verilog_tree.specs.Plain.{plain, expressions}
use Rattle.verilog_tree.specs.Rules.{all_reads}
use Rattle.verilog_tree.specs.inner.Seen.{mention}
use Rattle.verilog_tree.proofs.mentions.+put_expr.Given as goal

abbrev pub invariant-loop-part : goal.invariant-loop-part
invariant-loop-part l = map mention l.out.items ++ all_reads (expressions (map plain (drop l.part-index l.part-items))) ≡ map mention l.initial.out.items ++ all_reads (expressions (map plain l.part-items))
