use Rattle.std.proofs.Common.{◌≡◌, ◌++◌, take}
use Rattle.std.specs.List.{flat_map}
use Rattle.word_coupling.specs.inner.Judged.{judged_line}
use Rattle.word_coupling.proofs.report.write_couplings.Given as goal

abbrev pub invariant-loop-coupling : goal.invariant-loop-coupling
invariant-loop-coupling l = l.out.items ≡ l.initial.out.items ++ flat_map judged_line (take l.coupling-index l.judged)
