use Rattle.collar_test.proofs.Joint.{joint_settles}
use Rattle.collar_test.proofs.laws.joint_cycles_settle.Goals as goal

pub returns : goal.returns
returns c = joint_settles
