use Rattle.std.proofs.Common.{◌≡◌, ◌≤◌, take, length}
use Rattle.std.specs.Prelude.{count_by}
use Rattle.linked_report.specs.Links.{is_link_covered}
use Rattle.linked_report.specs.inner.Counted.{devices_of}
use Rattle.linked_report.proofs.devices.count_devices.Given as goal

abbrev pub invariant-loop-index : goal.invariant-loop-index
invariant-loop-index l = record {
  count : l.count ≡ length (devices_of (take l.index l.judged));
  covered : l.covered ≡ count_by is_link_covered (devices_of (take l.index l.judged));
  few : l.count ≤ l.index;
  fewer : l.covered ≤ l.count;
}
