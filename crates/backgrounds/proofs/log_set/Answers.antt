use Rattle.std.proofs.Common.{[], ap, arith, lit<, subst, sym, ◌++◌, ◌+◌, ◌∙◌, ◌∷◌, ◌≡◌}
use Rattle.backgrounds.specs.Backgrounds.{IsLogarithm}
use Rattle.backgrounds.proofs.StripeLemmas.{HasStripes, stripes_begun, stripes_more, stripes_are_log_set, log_set_separates_any}
use Rattle.backgrounds.proofs.log_set.Goals as goal

pub loop-k-init : goal.loop-k-init
loop-k-init c = subst (HasStripes c.args.bits 0) (sym (c.push.ensures.items ∙ ap (λ xs. xs ++ 0 ∷ []) c.new-set.ensures)) (stripes_begun c.args.bits)

pub push-requires-in-loop-k : goal.push-requires-in-loop-k
push-requires-in-loop-k c =
    let count = c.loop-k.invariant.count in
    let k = c.loop-k-test.true in
    let most = c.logarithm-k-end.ensures.at_most_6 in (lit< tt, omega (arith, count, k, most))

pub loop-k-preserved : goal.loop-k-preserved
loop-k-preserved c =
    subst (HasStripes c.args.bits (c.loop-k.k + 1)) (sym c.push-in-loop-k.ensures.items) (stripes_more c.args.bits c.loop-k.k c.stripe.result c.loop-k.set.items c.loop-k.invariant c.stripe.ensures)

pub returns-clause-log_set : goal.returns-clause-log_set
returns-clause-log_set c =
    let end : c.logarithm-k-end.result ≡ c.loop-k.k = omega (arith, c.loop-k.auto.k-end, c.loop-k-test.false) in
    stripes_are_log_set c.args.bits c.loop-k.k c.loop-k.set.items c.loop-k.invariant (subst (IsLogarithm c.args.bits) end c.logarithm-k-end.ensures.logarithm)

pub returns-clause-separates : goal.returns-clause-separates
returns-clause-separates c = λ i j hi hj n. log_set_separates_any c.args.bits c.loop-k.set.items i j (returns-clause-log_set c) hi hj n
