use Rattle.std.proofs.Common.{map, take}
use Rattle.dynamic_prover.specs.inner.Legs.{KnowsOf}
use Rattle.dynamic_prover.specs.inner.Legs.{leg_end}
use Rattle.dynamic_prover.specs.inner.Spots.{shape_at, candidate_at, NonePasses}
use Rattle.dynamic_prover.proofs.judging.least_at.Given as goal

abbrev pub invariant-loop-pair : goal.invariant-loop-pair
invariant-loop-pair l = record {
  none : NonePasses leg_end l.legs (map (candidate_at l.spot) (take l.pair-index l.pair-items));
  dead : KnowsOf (shape_at l.spot) l.legs l.dead_ends;
}
