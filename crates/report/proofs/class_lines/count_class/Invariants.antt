use Rattle.std.proofs.Common.{◌≡◌, ◌≤◌, take}
use Rattle.std.specs.Prelude.{count_by}
use Rattle.report.specs.Items.{item_of}
use Rattle.report.specs.Report.{is_in_class, class_covered}
use Rattle.report.proofs.class_lines.count_class.Given as goal

abbrev pub invariant-loop-item : goal.invariant-loop-item
invariant-loop-item l = record {
  count : l.count ≡ count_by (λ j. is_in_class l.class (item_of j)) (take l.item-index l.judged);
  covered : l.covered ≡ class_covered l.class (take l.item-index l.judged);
  few : l.count ≤ l.item-index;
  fewer : l.covered ≤ l.item-index;
}
