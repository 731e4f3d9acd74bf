use Rattle.std.proofs.Common.{◌≡◌, ◌≤◌, take, length}
use Rattle.word_coupling.specs.Report.{couplings}
use Rattle.word_coupling.proofs.judged.count_couplings.Given as goal

abbrev pub invariant-loop-item : goal.invariant-loop-item
invariant-loop-item l = record {
  count : l.count ≡ length (couplings (take l.item-index l.items));
  few : l.count ≤ l.item-index;
}
