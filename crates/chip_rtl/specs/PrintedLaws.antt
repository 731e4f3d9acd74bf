-- Public. What holds of the printed texts of chips.
use Rattle.std.specs.Prelude.{◌≡◌, ℕ, true, List, ◌++◌}
use Rattle.verilog_tree.specs.Plain.{ModuleTree}
use Rattle.verilog_tree.specs.Spells.{all_limits}
use Rattle.verilog_tree.specs.Words.{is_name}
use Rattle.chip_rtl.specs.ChipTree.{TopTree, ChipTree}
use Rattle.chip_rtl.specs.ChipTest.{TestUnit}
use Rattle.chip_rtl.specs.ChipLaws.{IsPlan, memories}
use Rattle.chip_rtl.specs.Tops.{top_of}
use Rattle.chip_rtl.specs.ChipGrammar.{ChipText}
use Rattle.chip_rtl.specs.PrintedTop.{printed_units}
use Rattle.chip_rtl.specs.TopFits.{TopFits, AllFit}

-- Behind the printed texts of any modules that fit, these bytes make the text of the chip of the modules and this
-- top, and of no other chip.
abbrev pub EndsChips : List ℕ → TopTree → Type 0
EndsChips b t = (us : List ModuleTree) → AllFit us
    → ChipText all_limits (printed_units us ++ b) (record { units = us; top = t })
    × ((other : ChipTree) → ChipText all_limits (printed_units us ++ b) other → other ≡ record { units = us; top = t })

-- The generated top of any plan can be printed, under a legal name.
abbrev pub GeneratedFit : Type 0
GeneratedFit = (name : List ℕ) (us : List TestUnit) (budget : ℕ) (groups : List ℕ) → IsPlan us budget groups
    → is_name name ≡ true → TopFits (top_of name groups (memories us))
