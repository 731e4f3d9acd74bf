-- Public. The text of a collar: that of its interface, and behind it that of its top.
use Rattle.std.specs.Prelude.{◌≡◌, ℕ, List, [], ◌∷◌, ◌++◌}
use Rattle.verilog_tree.specs.Plain.{ModuleTree}
use Rattle.verilog_tree.specs.Spells.{all_limits}
use Rattle.chip_rtl.specs.ChipTree.{TopTree, ChipTree}
use Rattle.chip_rtl.specs.ChipGrammar.{ChipText}
use Rattle.chip_rtl.specs.PrintedTop.{printed_units}
use Rattle.chip_rtl.specs.TopFits.{AllFit}

-- Behind the printed texts of any modules that fit, as that of the self-test, these bytes make the text of these modules, the interface and this
-- top, and of nothing else.
abbrev pub EndsCollar : List ℕ → ModuleTree → TopTree → Type 0
EndsCollar b interface t =
    (us : List ModuleTree) → AllFit us
    → ChipText all_limits (printed_units us ++ b) (record { units = us ++ interface ∷ []; top = t })
    × ((other : ChipTree) → ChipText all_limits (printed_units us ++ b) other → other ≡ record { units = us ++ interface ∷ []; top = t })
