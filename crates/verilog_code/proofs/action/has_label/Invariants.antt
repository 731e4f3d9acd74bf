use Rattle.std.proofs.Common.{◌≡◌, drop}
use Rattle.verilog_code.specs.Actions.{labelled}
use Rattle.verilog_code.proofs.action.has_label.Given as goal

abbrev pub invariant-loop-label : goal.invariant-loop-label
invariant-loop-label l = labelled l.subject (drop l.label-index l.labels) ≡ labelled l.subject l.labels
