use Rattle.std.proofs.Common.{◌∙◌, refl, ◌≡◌, length, ◌<◌, arith}
use Rattle.std.proofs.lemmas.List.{length-set}
use Rattle.sequence_faults.proofs.Noting.{noted}
use Rattle.sequence_faults.proofs.stepping.note.Goals as goal

pub loop-k-preserved : goal.loop-k-preserved
loop-k-preserved c =
    let size : length c.loop-k.done ≡ length c.args.done.now = c.loop-k.invariant.1 in
    let inside : c.loop-k.k < length c.loop-k.done = omega (arith, size, c.loop-k-test.true, c.requires) in (
      c.loop-k.invariant.0
          ∙ noted c.args.act c.loop-k.before c.args.acts.now c.loop-k.done c.loop-k.k _ _ c.goes_on.result (omega (arith, c.loop-k-test.true)) inside refl c.goes_on.ensures,
      length-set c.loop-k.done c.loop-k.k c.goes_on.result ∙ size,
    )
