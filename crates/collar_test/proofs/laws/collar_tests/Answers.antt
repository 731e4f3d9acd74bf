use Rattle.collar_test.proofs.Tests.{collar_tests}
use Rattle.collar_test.proofs.laws.collar_tests.Goals as goal

pub returns : goal.returns
returns c = collar_tests
