use Rattle.std.proofs.Common.{◌≡◌, ℕ, ◌+◌, ◌*◌, ◌%◌, ◌^◌, ◌<◌, slice_index, arith, sym, subst, bit_or}
use Rattle.scrambler.specs.Linear.{dot, number}
use Rattle.scrambler.proofs.LinearLemmas.{dot_below}
use Rattle.scrambler.proofs.Steps.{product_more}
use Rattle.scrambler.proofs.linear.product.Goals as goal

pub loop-i-preserved : goal.loop-i-preserved
loop-i-preserved c =
    let bit : ℕ → ℕ = λ i. dot (slice_index c.args.rows.now i) c.args.x in
    let low : c.loop-i.i < 16 = omega arith in
    subst (λ (d : ℕ). bit_or c.loop-i.y (d * 2 ^ c.loop-i.i % 65536) ≡ number bit (c.loop-i.i + 1)) (sym c.dot.ensures)
    (product_more bit c.loop-i.i c.loop-i.y (λ j. dot_below (slice_index c.args.rows.now j) c.args.x) low c.loop-i.invariant)
