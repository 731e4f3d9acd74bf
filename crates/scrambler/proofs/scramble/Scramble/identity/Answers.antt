use Rattle.scrambler.proofs.ScramblingLemmas.{invertible, matrix_is_full, units, units_undone, identity_is, logical_of_identity}
use Rattle.std.proofs.Common.{slice_index}
use Rattle.scrambler.proofs.scramble.Scramble.identity.Goals as goal

pub invariant_of-result : goal.invariant_of-result
invariant_of-result c = units_undone c.args.width c.requires.0 c.requires.1

pub returns-clause-identity : goal.returns-clause-identity
returns-clause-identity c = identity_is c.args.width c.requires.1

pub returns-clause-itself : goal.returns-clause-itself
returns-clause-itself c = λ k h. logical_of_identity c.args.width k c.requires.1 h

pub returns-clause-invertible : goal.returns-clause-invertible
returns-clause-invertible c =
    let u = units_undone c.args.width c.requires.0 c.requires.1 in
    invertible c.args.width units 0 (slice_index units) u.within u.reduced

pub returns-clause-full : goal.returns-clause-full
returns-clause-full c = matrix_is_full c.args.width units 0 (units_undone c.args.width c.requires.0 c.requires.1).within c.requires.1
