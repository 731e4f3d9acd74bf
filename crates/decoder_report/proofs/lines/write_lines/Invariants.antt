use Rattle.std.proofs.Common.{◌≡◌, ◌++◌, take}
use Rattle.decoder_report.specs.inner.Judged.{judged_lines}
use Rattle.decoder_report.proofs.lines.write_lines.Given as goal

abbrev pub invariant-loop-fault : goal.invariant-loop-fault
invariant-loop-fault l = l.out.items ≡ l.initial.out.items ++ judged_lines l.size (take l.fault-index l.judged)
