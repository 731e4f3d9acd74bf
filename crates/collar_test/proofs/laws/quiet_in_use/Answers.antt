use Rattle.collar_test.proofs.Ends.{quiet_in_use}
use Rattle.collar_test.proofs.laws.quiet_in_use.Goals as goal

pub returns : goal.returns
returns c = quiet_in_use
