use Rattle.std.proofs.Common.{◌≡◌, ◌≤◌, take}
use Rattle.decoder_report.specs.inner.Judged.{covered_count}
use Rattle.decoder_report.proofs.judged.count_covered.Given as goal

abbrev pub invariant-loop-fault : goal.invariant-loop-fault
invariant-loop-fault l = record {
  count : l.count ≡ covered_count (take l.fault-index l.judged);
  few : l.count ≤ l.fault-index;
}
