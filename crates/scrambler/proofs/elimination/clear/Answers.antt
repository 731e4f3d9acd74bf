use Rattle.std.proofs.Common.{ℕ, ◌*◌, ◌^◌, ◌<◌, slice_index, sym, subst, rules}
use Rattle.scrambler.proofs.Clearing.{added-below}
use Rattle.scrambler.proofs.elimination.clear.Goals as goal

pub overflow_mul-vectors : goal.overflow_mul-vectors
overflow_mul-vectors c =
    let own = slice_index c.args.vectors.now c.args.place in
    let fits : own < 2 ^ 16 = search rules in
    let below : c.dot.result * own < 2 ^ 16 =
    subst (λ (d : ℕ). d * own < 2 ^ 16) (sym c.dot.ensures) (added-below c.args.row (slice_index c.loop-l.vectors c.loop-l.l) own fits) in
    search rules
