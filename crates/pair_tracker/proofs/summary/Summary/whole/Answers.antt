use Rattle.std.proofs.Common.{subst, arith}
use Rattle.pair_tracker.specs.Legs.{Leg, SumsUp}
use Rattle.pair_tracker.specs.Reached.{rows_of}
use Rattle.pair_tracker.proofs.Ends.{sums_up}
use Rattle.pair_tracker.proofs.summary.Summary.whole.Goals as goal

pub returns : goal.returns
returns c =
    let whole : Leg = record {
      march = c.args.march.now;
      prim = c.args.prim.now;
      placement = c.args.placement;
      first = 0;
      end = c.len.result;
      rows = rows_of c.args.march.now c.args.prim.now c.args.placement 0 c.len.result;
    } in
    subst (λ n. SumsUp c.args.march.now c.args.prim.now c.args.placement 0 n whole) c.len.ensures.value
    (sums_up c.args.march.now c.args.prim.now c.args.placement 0 c.len.result
    (record { is_march = c.known.ensures; primitive = c.known-2.ensures; fits = c.requires; ordered = omega arith; within = omega (arith, c.len.ensures.value) }))
