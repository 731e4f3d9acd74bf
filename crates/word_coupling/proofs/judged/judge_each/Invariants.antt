use Rattle.std.proofs.Common.{take}
use Rattle.word_coupling.specs.inner.Judged.{AreJudged}
use Rattle.word_coupling.specs.Report.{couplings}
use Rattle.word_coupling.proofs.judged.judge_each.Given as goal

abbrev pub invariant-loop-item : goal.invariant-loop-item
invariant-loop-item l = AreJudged l.march l.memory (couplings (take l.item-index l.items)) l.judged.items
