use Rattle.std.proofs.Common.{sym, ◌∙◌}
use Rattle.sequence_faults.proofs.Same.{same_lists}
use Rattle.sequence_faults.proofs.few.same_bits.Goals as goal

pub returns : goal.returns
returns c = λ e. same_lists c.args.one.now c.args.other.now (sym c.eq.ensures ∙ e)
