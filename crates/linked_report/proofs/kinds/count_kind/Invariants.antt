use Rattle.std.proofs.Common.{◌≡◌, ◌≤◌, take}
use Rattle.std.specs.Prelude.{count_by}
use Rattle.linked_report.specs.Report.{is_of_kind}
use Rattle.linked_report.specs.inner.Counted.{kind_covered}
use Rattle.linked_report.proofs.kinds.count_kind.Given as goal

abbrev pub invariant-loop-link : goal.invariant-loop-link
invariant-loop-link l = record {
  count : l.count ≡ count_by (λ j. is_of_kind l.kind j.link) (take l.link-index l.judged);
  covered : l.covered ≡ kind_covered l.kind (take l.link-index l.judged);
  few : l.count ≤ l.link-index;
  fewer : l.covered ≤ l.count;
}
