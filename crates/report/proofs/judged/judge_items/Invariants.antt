use Rattle.std.proofs.Common.{take}
use Rattle.report.specs.Items.{AreJudged}
use Rattle.report.proofs.judged.judge_items.Given as goal

abbrev pub invariant-loop-item : goal.invariant-loop-item
invariant-loop-item l = AreJudged l.march (take l.item-index l.items) l.judged.items
