use Rattle.collar_test.proofs.Connecting.{top_connects}
use Rattle.collar_test.proofs.laws.top_connects.Goals as goal

pub returns : goal.returns
returns c = top_connects
