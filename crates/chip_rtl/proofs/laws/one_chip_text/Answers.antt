use Rattle.chip_rtl.proofs.OneText.{one_module, one_text}
use Rattle.chip_rtl.proofs.laws.one_chip_text.Goals as goal

pub returns : goal.returns
returns c = record { modules = one_module; chips = one_text }
