use Rattle.chip_rtl.proofs.GeneratedTops.{generated_fit}
use Rattle.chip_rtl.proofs.GeneratedChips.{plans_are_written}
use Rattle.chip_rtl.proofs.laws.plans_are_written.Goals as goal

pub returns : goal.returns
returns c = record { fit = generated_fit; written = plans_are_written }
