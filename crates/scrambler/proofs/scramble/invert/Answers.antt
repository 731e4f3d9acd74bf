use Rattle.std.proofs.Common.{refl, slice_index}
use Rattle.scrambler.specs.Scrambling.{matrix_of}
use Rattle.scrambler.proofs.ScramblingLemmas.{invertible, singular, cancel}
use Rattle.scrambler.proofs.scramble.invert.Goals as goal

pub returns-in-Ok-clause-ok : goal.returns-in-Ok-clause-ok
returns-in-Ok-clause-ok c =
    let m = c.args.matrix.now in
    (λ _. invertible m.width m.rows m.constant (slice_index c.in-Ok.vectors) c.requires c.in-Ok.ensures.ok, λ _. refl)

pub returns-in-Ok-clause-singular : goal.returns-in-Ok-clause-singular
returns-in-Ok-clause-singular c =
    let m = c.args.matrix.now in
    (λ e. cc, λ never. absurd (never (invertible m.width m.rows m.constant (slice_index c.in-Ok.vectors) c.requires c.in-Ok.ensures.ok)))

pub returns-in-Err-clause-ok : goal.returns-in-Err-clause-ok
returns-in-Err-clause-ok c =
    let m = c.args.matrix.now in
    (λ e. cc, λ holds. absurd (singular (matrix_of m.width m.rows m.constant) c.in-Err.dependence.rows c.in-Err.ensures.err holds))

pub returns-in-Err-clause-singular : goal.returns-in-Err-clause-singular
returns-in-Err-clause-singular c =
    let m = c.args.matrix.now in
    (λ _. singular (matrix_of m.width m.rows m.constant) c.in-Err.dependence.rows c.in-Err.ensures.err, λ _. refl)

pub returns-in-Err-clause-cancel : goal.returns-in-Err-clause-cancel
returns-in-Err-clause-cancel c =
    let m = c.args.matrix.now in cancel (matrix_of m.width m.rows m.constant) c.in-Err.dependence.rows c.in-Err.ensures.err

pub returns-in-Ok-clause-invertible : goal.returns-in-Ok-clause-invertible
returns-in-Ok-clause-invertible c =
    let m = c.args.matrix.now in invertible m.width m.rows m.constant (slice_index c.in-Ok.vectors) c.requires c.in-Ok.ensures.ok
