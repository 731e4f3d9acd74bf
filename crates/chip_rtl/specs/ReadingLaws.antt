-- Public. What holds of the texts of chips.
use Rattle.std.specs.Prelude.{◌≡◌, ℕ, List}
use Rattle.verilog_tree.specs.Spells.{all_limits}
use Rattle.chip_rtl.specs.ChipTree.{ChipTree}
use Rattle.chip_rtl.specs.ChipGrammar.{ChipText}

-- No bytes are two chips.
abbrev pub NoTwoTexts : Type 0
NoTwoTexts = (b : List ℕ) (c d : ChipTree) → ChipText all_limits b c → ChipText all_limits b d → c ≡ d
