use Rattle.std.proofs.Common.{◌≡◌, ◌+◌, ◌-◌, ◌^◌, ◌≤◌, min, map, drop, List, ℕ}
use Rattle.verilog_tree.specs.Plain.{plain, expressions}
use Rattle.verilog_tree.specs.Names.{width_of}
use Rattle.verilog_tree.specs.Meaning.{widths}
use Rattle.verilog_tree.specs.Rules.{parts_widths}
use Rattle.verilog_tree.proofs.widths.+expr_width.Given as goal

abbrev pub invariant-loop-part : goal.invariant-loop-part
invariant-loop-part l =
    let w : List ℕ → ℕ = width_of l.names in
    record {
      fits : l.total ≤ 2 ^ 64 - 1;
      total : min (l.total + widths w (expressions (map plain (drop l.part-index l.part-items)))) (2 ^ 64 - 1) ≡ min (widths w (expressions (map plain l.part-items))) (2 ^ 64 - 1);
      first : parts_widths w (expressions (map plain (drop l.part-index l.part-items))) ≡ parts_widths w (expressions (map plain l.part-items));
    }
