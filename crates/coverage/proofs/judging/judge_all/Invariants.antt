use Rattle.std.proofs.Common.{take}
use Rattle.coverage.specs.Verdicts.{AreVerdicts}
use Rattle.coverage.proofs.judging.judge_all.Given as goal

abbrev pub invariant-loop-prim : goal.invariant-loop-prim
invariant-loop-prim l = AreVerdicts l.march (take l.prim-index l.prims) l.verdicts.items
