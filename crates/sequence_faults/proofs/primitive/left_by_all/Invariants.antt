use Rattle.std.proofs.Common.{◌≡◌, drop}
use Rattle.sequence_faults.specs.Primitive.{left_by_all}
use Rattle.sequence_faults.proofs.primitive.left_by_all.Given as goal

abbrev pub invariant-loop-act : goal.invariant-loop-act
invariant-loop-act l = left_by_all l.left (drop l.act-index l.acts) ≡ left_by_all l.fn.state l.acts
