use Rattle.std.proofs.Common.{◌≡◌, ◌++◌, take}
use Rattle.std.specs.List.{flat_map}
use Rattle.linked_report.specs.Report.{kind_order}
use Rattle.linked_report.specs.inner.Counted.{counted_line}
use Rattle.linked_report.proofs.kinds.write_kinds.Given as goal

abbrev pub invariant-loop-kind : goal.invariant-loop-kind
invariant-loop-kind l = l.out.items ≡ l.initial.out.items ++ flat_map (counted_line l.judged) (take l.kind-index kind_order)
