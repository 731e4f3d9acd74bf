use Rattle.std.proofs.Common.{◌≡◌, ◌++◌, true, drop}
use Rattle.verilog_emit.specs.Printed.{labels_text}
use Rattle.verilog_emit.proofs.writing.put_labels.Given as goal

abbrev pub invariant-loop-label : goal.invariant-loop-label
invariant-loop-label l = l.out.items ++ labels_text l.first (drop l.label-index l.labels) ≡ l.initial.out.items ++ labels_text true l.labels
