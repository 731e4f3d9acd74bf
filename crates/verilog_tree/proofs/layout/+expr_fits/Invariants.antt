use Rattle.std.proofs.Common.{◌≡◌, ◌-◌, map, drop}
use Rattle.verilog_tree.specs.Plain.{plain, expressions}
use Rattle.verilog_tree.specs.Fits.{expressions_fit}
use Rattle.verilog_tree.proofs.layout.+expr_fits.Given as goal

abbrev pub invariant-loop-part : goal.invariant-loop-part
invariant-loop-part l = expressions_fit (l.room - 1) (expressions (map plain (drop l.part-index l.part-items))) ≡ expressions_fit (l.room - 1) (expressions (map plain l.part-items))
