use Rattle.word_march.proofs.Unpaused.{unbroken_is}
use Rattle.word_march.proofs.laws.unbroken.Goals as goal

pub returns : goal.returns
returns c = unbroken_is
