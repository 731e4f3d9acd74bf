use Rattle.std.proofs.Common.{take}
use Rattle.dynamic_prover.specs.inner.Shapes.{end_in}
use Rattle.dynamic_prover.specs.inner.Spots.{candidates_of, NonePasses}
use Rattle.dynamic_prover.proofs.judging.least.Given as goal

abbrev pub invariant-loop-spot : goal.invariant-loop-spot
invariant-loop-spot l = NonePasses (end_in l.prim) l.march (candidates_of (take l.spot-index l.spot-items))
