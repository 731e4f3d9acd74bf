use Rattle.std.proofs.Common.{◌+◌, arith}
use Rattle.pair_tracker.proofs.Ends.{sums_up}
use Rattle.pair_tracker.proofs.summary.Summary.element.Goals as goal

pub returns : goal.returns
returns c =
    sums_up c.args.march.now c.args.prim.now c.args.placement c.args.i (c.args.i + 1)
    (record { is_march = c.known.ensures; primitive = c.known-2.ensures; fits = c.requires.fits; ordered = omega arith; within = omega (arith, c.requires.there) })
