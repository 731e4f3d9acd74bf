use Rattle.std.proofs.Common.{refl, get_or, false}
use Rattle.cell_machine.specs.Pairs.{pair_of}
use Rattle.dynamic_prover.proofs.Searching.{found_at, none_more}
use Rattle.dynamic_prover.proofs.judging.least_at.Goals as goal

pub returns-in-Some : goal.returns-in-Some
returns-in-Some c =
    found_at c.args.prim.now c.args.legs.now c.args.spot c.starts-pair-items.result.now c.loop-pair.pair-index (get_or c.starts-pair-items.result.now c.loop-pair.pair-index (pair_of false false)) (pair_of false false)
    c.in-Some.escape c.starts-pair-items.ensures c.loop-pair-test.true refl c.loop-pair.invariant.none c.in-Some.ensures.escape.0 c.in-Some.ensures.escape.1

pub loop-pair-preserved : goal.loop-pair-preserved
loop-pair-preserved c = record {
  none =
      none_more c.args.legs.now c.args.spot c.starts-pair-items.result.now c.loop-pair.pair-index (get_or c.starts-pair-items.result.now c.loop-pair.pair-index (pair_of false false)) (pair_of false false)
      c.loop-pair-test.true refl c.loop-pair.invariant.none c.in_default.ensures.escape;
  dead = c.in_default.ensures.dead;
}
