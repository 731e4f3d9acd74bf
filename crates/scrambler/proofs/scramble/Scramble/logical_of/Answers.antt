use Rattle.std.proofs.Common.{ℕ, ◌<◌, ◌^◌, ◌≡◌, ◌∙◌, sym, ap, subst, bit_xor}
use Rattle.scrambler.specs.Scrambling.{Scrambling, logical}
use Rattle.scrambler.proofs.ScramblingLemmas.{logical_by_rows, logical-below}
use Rattle.scrambler.proofs.scramble.Scramble.logical_of.Goals as goal

is_logical : (c : goal.After-from) → c.from.result ≡ logical c.args.self.now c.args.k
is_logical c =
    let m = c.self.inside.matrix in
    c.from.ensures ∙ ap (λ (x : ℕ). bit_xor x m.constant) c.product.ensures
    ∙ logical_by_rows m.width m.rows c.self.inside.vectors m.constant c.args.k c.self.invariant
    ∙ ap (λ (s : Scrambling). logical s c.args.k) c.self.view_is

pub returns-clause-logical : goal.returns-clause-logical
returns-clause-logical c = is_logical c

pub returns-clause-fits : goal.returns-clause-fits
returns-clause-fits c =
    subst (λ (x : ℕ). x < 2 ^ c.args.self.now.width) (sym (is_logical c)) (logical-below c.args.self.now c.args.k)
