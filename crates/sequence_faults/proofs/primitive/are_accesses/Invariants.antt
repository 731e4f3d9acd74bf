use Rattle.std.proofs.Common.{◌≡◌, drop}
use Rattle.sequence_faults.specs.inner.Testing.{are_accesses}
use Rattle.sequence_faults.proofs.primitive.are_accesses.Given as goal

abbrev pub invariant-loop-act : goal.invariant-loop-act
invariant-loop-act l = are_accesses (drop l.act-index l.acts) ≡ are_accesses l.acts
