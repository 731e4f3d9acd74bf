use Rattle.bist_inputs.specs.Chips.{GivesChip}
use Rattle.bist_inputs.proofs.chips.give_chip.Goals as goal

pub returns-in-Ok-clause-answer : goal.returns-in-Ok-clause-answer
unfolding GivesChip
returns-in-Ok-clause-answer c = ((c.read_chip.ensures.ok c.in-Ok.chip).0 c.in-Ok.is, c.known.ensures)

pub returns-in-Err-clause-answer : goal.returns-in-Err-clause-answer
unfolding GivesChip
returns-in-Err-clause-answer c = (c.read_chip.ensures.refused c.in-Err.fault).0 c.in-Err.is
