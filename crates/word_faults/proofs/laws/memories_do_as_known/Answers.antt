use Rattle.word_faults.proofs.Alike.{as_one, by_bits, plainly, in_place, rests}
use Rattle.word_faults.proofs.Dynamic.{steps_as, answers_as}
use Rattle.word_faults.proofs.laws.memories_do_as_known.Goals as goal

pub returns : goal.returns
returns c = record { linked = as_one; decoded = by_bits; plainly = plainly; by_cells = steps_as; in_place = in_place; answers = answers_as; rests = rests }
