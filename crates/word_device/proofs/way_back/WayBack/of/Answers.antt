use Rattle.std.proofs.Common.{◌≡◌, ◌∙◌, ◌+◌, ◌^◌, ℕ, ap, refl, arith}
use Rattle.std.proofs.lemmas.Nat.{pow_pos}
use Rattle.word_device.proofs.WayBack.{leads}
use Rattle.word_device.proofs.way_back.WayBack.of.Goals as goal

pub returns : goal.returns
returns c =
    let w : ℕ = c.width.result in
    let last : ℕ = c.all_ones-last.result in
    let is = c.all_ones-last.ensures in
    let some = pow_pos w in
    let least = c.min.ensures in
    let next : last + 1 ≡ 2 ^ w = omega arith in
    leads c.args.scramble.now (record { low = c.low_indexes-low.result; high = c.high_indexes-high.result }) last c.min.result _ c.known.ensures.full
    c.width.ensures.invertible (next ∙ ap (λ (n : ℕ). 2 ^ n) c.width.ensures.width) (omega arith) refl (λ x low byte. omega arith) c.low_indexes-low.ensures
    c.high_indexes-high.ensures
