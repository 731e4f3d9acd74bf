use Rattle.std.proofs.Common.{◌≡◌, ◌≤◌, take}
use Rattle.report.specs.Items.{covered_count}
use Rattle.report.proofs.total.count_covered.Given as goal

abbrev pub invariant-loop-item : goal.invariant-loop-item
invariant-loop-item l = record {
  count : l.count ≡ covered_count (take l.item-index l.judged);
  few : l.count ≤ l.item-index;
}
