use Rattle.dynamic_core.proofs.Standing.{no_acts}
use Rattle.dynamic_core.proofs.judge.acts_of.Goals as goal

pub returns-in-None : goal.returns-in-None
returns-in-None c = λ text kept. no_acts c.args.brief text c.in-Some-Some.first c.in-Some-Some.second c.in-Some-Some.is-0 c.in-Some-Some.is-1 c.in-None.ensures kept
