use Rattle.std.proofs.Common.{◌≡◌, take}
use Rattle.report.specs.Items.{plain_items}
use Rattle.report.proofs.verdicts.with_verdicts.Given as goal

abbrev pub invariant-loop-i : goal.invariant-loop-i
invariant-loop-i l = l.judged.items ≡ plain_items (take l.i l.prims) (take l.i l.verdicts)
