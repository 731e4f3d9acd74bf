use Rattle.std.proofs.Common.{subst, slice_index}
use Rattle.scrambler.specs.Scrambling.{Scrambling, IsInvertible}
use Rattle.scrambler.proofs.ScramblingLemmas.{invertible}
use Rattle.scrambler.proofs.scramble.Scramble.width.Goals as goal

pub returns-clause-invertible : goal.returns-clause-invertible
returns-clause-invertible c =
    let m = c.self.inside.matrix in
    let u = c.self.invariant in
    subst (λ (s : Scrambling). IsInvertible s) c.self.view_is (invertible m.width m.rows m.constant (slice_index c.self.inside.vectors) u.within u.reduced)
