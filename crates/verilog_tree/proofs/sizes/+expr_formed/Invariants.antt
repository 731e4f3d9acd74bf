use Rattle.std.proofs.Common.{◌≡◌, map, drop}
use Rattle.verilog_tree.specs.Plain.{plain, expressions}
use Rattle.verilog_tree.specs.Formed.{expressions_formed}
use Rattle.verilog_tree.proofs.sizes.+expr_formed.Given as goal

abbrev pub invariant-exprs_formed-loop-part : goal.invariant-exprs_formed-loop-part
invariant-exprs_formed-loop-part l = expressions_formed (expressions (map plain l.parts)) ≡ expressions_formed (expressions (map plain (drop l.part-index l.parts)))
