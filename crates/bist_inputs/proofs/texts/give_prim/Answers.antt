use Rattle.bist_inputs.specs.Inputs.{GivesPrim}
use Rattle.bist_inputs.proofs.texts.give_prim.Goals as goal

pub returns-in-Ok-clause-answer : goal.returns-in-Ok-clause-answer
unfolding GivesPrim
returns-in-Ok-clause-answer c = (c.read_prim.ensures.ok c.in-Ok.prim).0 c.in-Ok.is
