use Rattle.linked_faults.proofs.Inversion.{inversions}
use Rattle.linked_faults.proofs.laws.inversion_is_a_link.Goals as goal

pub returns : goal.returns
returns c = inversions
