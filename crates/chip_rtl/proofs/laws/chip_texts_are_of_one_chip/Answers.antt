use Rattle.chip_rtl.proofs.WrittenChip.{text_derived, no_other_chip, text_bytes}
use Rattle.chip_rtl.proofs.laws.chip_texts_are_of_one_chip.Goals as goal

pub returns : goal.returns
returns c = record { derived = text_derived; no_other = no_other_chip; plain = text_bytes }
