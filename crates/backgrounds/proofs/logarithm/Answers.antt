use Rattle.std.proofs.Common.{arith}
use Rattle.backgrounds.proofs.StripeLemmas.{width_of_small}
use Rattle.backgrounds.proofs.logarithm.Goals as goal

pub returns-else-bits-eq1-clause-at_most_6 : goal.returns-else-bits-eq1-clause-at_most_6
returns-else-bits-eq1-clause-at_most_6 c =
    width_of_small c.from.result c.width_of.result c.width_of.ensures.width
    (let from = c.from.ensures in omega arith)
