use Rattle.std.proofs.Common.{◌≡◌, ◌≤◌, take}
use Rattle.std.specs.Prelude.{count_by}
use Rattle.linked_report.specs.Links.{is_link_covered}
use Rattle.linked_report.proofs.judged.count_covered.Given as goal

abbrev pub invariant-loop-link : goal.invariant-loop-link
invariant-loop-link l = record {
  count : l.count ≡ count_by is_link_covered (take l.link-index l.judged);
  few : l.count ≤ l.link-index;
}
