use Rattle.std.proofs.Common.{◌≡◌, drop}
use Rattle.verilog_tree.specs.Rules.{label_widths}
use Rattle.verilog_tree.proofs.widths.label_widths.Given as goal

abbrev pub invariant-loop-label : goal.invariant-loop-label
invariant-loop-label l = label_widths l.subject (drop l.label-index l.labels) ≡ label_widths l.subject l.labels
