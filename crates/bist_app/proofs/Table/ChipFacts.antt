-- What is known of `chip`.
use Rattle.bist_app.proofs.Common.{[], refl, leaves_conclude, then_concludes, chip_settles, InputChip, memories}
use Rattle.bist_app.proofs.Facts.{Facts, files_facts}
use Rattle.bist_app.proofs.OneChip.{names_settle, tested_one, units_settle}
use Rattle.bist_app.specs.Chip.{DecidesChip, GivesUnits, HasOwnNames, IsChipTested, LeavesChip, chip_form, chip_row}

pub chip_facts : Facts chip_row
unfolding LeavesChip
chip_facts = files_facts chip_form DecidesChip (λ outputs. []) (λ files words.
    then_concludes (InputChip files words 1) _ (chip_settles files words 1) (λ chip _.
    then_concludes (GivesUnits files 0 chip.units) _ (units_settle files 0 chip.units) (λ us _.
    then_concludes (HasOwnNames chip.name (memories us)) _ (names_settle chip.name (memories us)) (λ _ _.
    leaves_conclude (IsChipTested chip.name us chip.budget) (λ told tells d e f g. tested_one chip.name us chip.budget d e f g) (λ told d e f g. refl)))))
