use Rattle.std.proofs.Common.{◌∙◌, ap, sym}
use Rattle.std.proofs.lemmas.Bool.{eqb-false}
use Rattle.sequence_faults.specs.inner.Testing.{is_read}
use Rattle.sequence_faults.proofs.Tests.{last_is}
use Rattle.sequence_faults.proofs.primitive.ends_in_read.Goals as goal

pub returns : goal.returns
returns c = c.is_read.ensures ∙ sym (ap is_read (last_is c.args.acts.now _ (eqb-false _ 0 (sym c.is_empty.ensures ∙ c.if-is_empty.false))))
