use Rattle.collar_test.proofs.Connecting.{top_shows}
use Rattle.collar_test.proofs.laws.top_shows.Goals as goal

pub returns : goal.returns
returns c = top_shows
