use Rattle.backgrounds.specs.Backgrounds.{IsStripe}
use Rattle.backgrounds.proofs.stripe.Given as goal

abbrev pub invariant-loop-j : goal.invariant-loop-j
invariant-loop-j l = IsStripe l.j l.k l.word
