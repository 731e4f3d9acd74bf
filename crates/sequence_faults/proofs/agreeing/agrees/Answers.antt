use Rattle.sequence_faults.proofs.AsDynamic.{as_dynamic}
use Rattle.sequence_faults.proofs.AsStatic.{as_static}
use Rattle.sequence_faults.proofs.agreeing.agrees.Goals as goal

pub returns-clause-one : goal.returns-clause-one
returns-clause-one c = as_static

pub returns-clause-two : goal.returns-clause-two
returns-clause-two c = as_dynamic
