use Rattle.std.proofs.Common.{◌≡◌, drop}
use Rattle.verilog_tree.specs.Formed.{labels_formed}
use Rattle.verilog_tree.proofs.sizes.labels_formed.Given as goal

abbrev pub invariant-loop-label : goal.invariant-loop-label
invariant-loop-label l = labels_formed l.labels ≡ labels_formed (drop l.label-index l.labels)
