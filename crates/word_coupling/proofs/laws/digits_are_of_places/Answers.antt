use Rattle.word_coupling.proofs.Digits.{digits_are_of_places}
use Rattle.word_coupling.proofs.laws.digits_are_of_places.Goals as goal

pub returns : goal.returns
returns c = digits_are_of_places
