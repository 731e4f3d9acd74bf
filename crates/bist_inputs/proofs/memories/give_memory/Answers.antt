use Rattle.bist_inputs.specs.Memories.{GivesMemory}
use Rattle.bist_inputs.proofs.memories.give_memory.Goals as goal

pub returns-in-Ok-clause-answer : goal.returns-in-Ok-clause-answer
unfolding GivesMemory
returns-in-Ok-clause-answer c = ((c.read_memory.ensures.ok c.in-Ok.memory).0 c.in-Ok.is, c.known.ensures)

pub returns-in-Err-clause-answer : goal.returns-in-Err-clause-answer
unfolding GivesMemory
returns-in-Err-clause-answer c = (c.read_memory.ensures.refused c.in-Err.fault).0 c.in-Err.is
