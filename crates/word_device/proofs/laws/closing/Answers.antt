use Rattle.word_device.proofs.laws.closing.Goals as goal
use Rattle.word_device.proofs.Closed.{closes}

pub returns : goal.returns
returns c = closes
