use Rattle.std.proofs.Common.{ℕ, ◌<◌, ◌^◌, ◌≡◌, ◌∙◌, sym, ap, subst, slice_index, bit_xor}
use Rattle.scrambler.specs.Linear.{combination}
use Rattle.scrambler.specs.Scrambling.{Scrambling, logical, matrix_of}
use Rattle.scrambler.proofs.ScramblingLemmas.{back, back-below, only}
use Rattle.scrambler.proofs.scramble.Scramble.physical_of.Goals as goal

-- the index that comes back
is_combination : (c : goal.After-from)
    → c.from.result ≡ combination (slice_index c.self.inside.vectors) c.self.inside.matrix.width (bit_xor c.args.a c.self.inside.matrix.constant)
is_combination c = c.from.ensures ∙ c.combination.ensures

fits : (c : goal.After-from) → c.from.result < 2 ^ c.self.inside.matrix.width
fits c =
    let m = c.self.inside.matrix in
    subst (λ (x : ℕ). x < 2 ^ m.width) (sym (is_combination c))
    (back-below m.width m.rows c.self.inside.vectors m.constant (bit_xor c.args.a m.constant) c.self.invariant)

leads_back : (c : goal.After-from) → logical (matrix_of c.self.inside.matrix.width c.self.inside.matrix.rows c.self.inside.matrix.constant) c.from.result ≡ c.args.a
leads_back c =
    let m = c.self.inside.matrix in
    let a_fits = subst (λ (s : Scrambling). c.args.a < 2 ^ s.width) (sym c.self.view_is) c.requires in
    ap (logical (matrix_of m.width m.rows m.constant)) (is_combination c)
    ∙ back m.width m.rows c.self.inside.vectors m.constant c.args.a c.self.invariant a_fits

pub returns-clause-fits : goal.returns-clause-fits
returns-clause-fits c = subst (λ (s : Scrambling). c.from.result < 2 ^ s.width) c.self.view_is (fits c)

pub returns-clause-back : goal.returns-clause-back
returns-clause-back c = subst (λ (s : Scrambling). logical s c.from.result ≡ c.args.a) c.self.view_is (leads_back c)

pub returns-clause-only : goal.returns-clause-only
returns-clause-only c =
    let m = c.self.inside.matrix in
    subst (λ (s : Scrambling). (k : ℕ) → k < 2 ^ s.width → logical s k ≡ c.args.a → k ≡ c.from.result) c.self.view_is
    (λ k h e. only m.width m.rows c.self.inside.vectors m.constant c.from.result k c.args.a c.self.invariant (fits c) h (leads_back c) e)
