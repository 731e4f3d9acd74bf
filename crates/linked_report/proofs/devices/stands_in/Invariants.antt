use Rattle.std.proofs.Common.{◌≡◌, drop}
use Rattle.linked_report.specs.inner.Counted.{stands_in}
use Rattle.linked_report.proofs.devices.stands_in.Given as goal

abbrev pub invariant-loop-other : goal.invariant-loop-other
invariant-loop-other l = stands_in (drop l.other-index l.judged) l.link ≡ stands_in l.judged l.link
