use Rattle.std.proofs.Common.{◌≡◌, ◌≤◌, take}
use Rattle.std.specs.Prelude.{count_by}
use Rattle.word_coupling.specs.inner.Judged.{is_covered}
use Rattle.word_coupling.proofs.judged.count_covered.Given as goal

abbrev pub invariant-loop-coupling : goal.invariant-loop-coupling
invariant-loop-coupling l = record {
  count : l.count ≡ count_by is_covered (take l.coupling-index l.judged);
  few : l.count ≤ l.coupling-index;
}
