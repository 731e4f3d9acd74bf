use Rattle.chip_rtl.proofs.OneChip.{one_chip}
use Rattle.chip_rtl.proofs.laws.one_reading.Goals as goal

pub returns : goal.returns
returns c = one_chip
