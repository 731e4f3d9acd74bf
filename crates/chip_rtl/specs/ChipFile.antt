-- Trusted. What the file is that a test of several memories is written to.
use Rattle.std.specs.Prelude.{◌≡◌, ℕ, true, List, [], ◌∷◌, map}
use Rattle.verilog_tree.specs.Plain.{ModuleTree}
use Rattle.verilog_tree.specs.Words.{is_name}
use Rattle.verilog_tree.specs.Spells.{all_limits}
use Rattle.memory_desc.specs.Descriptions.{Description}
use Rattle.self_test.specs.SelfTest.{module_name}
use Rattle.chip_plan.specs.Groups.{FirstFit}
use Rattle.chip_rtl.specs.ChipTree.{ChipTree}
use Rattle.chip_rtl.specs.ChipGrammar.{ChipText}
use Rattle.chip_rtl.specs.ChipTest.{TestUnit, ChipTest}
use Rattle.chip_rtl.specs.ChipLaws.{AllTested, IsPlan, memories, weights, chip_of}
use Rattle.chip_rtl.specs.Together.{Differ, IsChip}
use Rattle.chip_rtl.specs.Tops.{top_ports}
use Rattle.chip_rtl.specs.PrintedTop.{printed_chip, printed_units}
use Rattle.chip_rtl.specs.TopFits.{TopFits, AllFit}

-- The bytes are the text of this chip: they are its layout, and its modules and its top fit, so that they are no other's.
abbrev pub IsChipTextOf : List ℕ → ChipTree → Type 0
IsChipTextOf bytes c = AllFit c.units × TopFits c.top × (bytes ≡ printed_chip c)

-- The bytes are the text of one chip and of no other, and spell it and no other by the grammar; it keeps its rules. Its modules are
-- self-tests of these units, one for each in their order; it has this name and the ports of their memories, and tests them within
-- the budget, in the groups of the first fit.
pub record ChipFile (b name : List ℕ) (us : List TestUnit) (budget : ℕ) : Type 0 where
  pub chip : ChipTree
  pub groups : List ℕ
  pub text : IsChipTextOf b chip
  pub only : (other : ChipTree) → IsChipTextOf b other → other ≡ chip
  pub spells : ChipText all_limits b chip
  pub no_other : (other : ChipTree) → ChipText all_limits b other → other ≡ chip
  pub legal : IsChip chip
  pub modules : AllTested chip.units us
  pub named : chip.top.name ≡ name
  pub ports : chip.top.ports ≡ top_ports (memories us)
  pub fitted : FirstFit budget [] (weights us) groups
  pub tests : ChipTest chip us budget groups

-- The printed self-tests of a plan, and behind them its printed top, are such a file of these modules, where all names differ.
abbrev pub PlansAreWritten : Type 0
PlansAreWritten =
    (name : List ℕ) (us : List TestUnit) (budget : ℕ) (groups : List ℕ) (ms : List ModuleTree)
    → IsPlan us budget groups → AllTested ms us → AllFit ms → is_name name ≡ true
    → Differ (name ∷ map (λ u. module_name u.memory.name) us)
    → (f : ChipFile (printed_chip (chip_of name groups us ms)) name us budget) × (f.chip.units ≡ ms)

-- the groups are those of a plan of units with these memories
abbrev pub IsPlanOf : List Description → List ℕ → Type 0
IsPlanOf ds groups = (us : List TestUnit) × (budget : ℕ) × (memories us ≡ ds) × IsPlan us budget groups

-- Behind the printed self-tests of any plan with these memories and groups stands now what makes them its file, of these modules.
abbrev pub EndsFile : List ℕ → List ℕ → List ℕ → List ℕ → List Description → Type 0
EndsFile old new name groups ds =
    (us : List TestUnit) (budget : ℕ) (ms : List ModuleTree)
    → memories us ≡ ds → old ≡ printed_units ms → IsPlan us budget groups → AllTested ms us → AllFit ms
    → Differ (name ∷ map (λ u. module_name u.memory.name) us) → (f : ChipFile new name us budget) × (f.chip.units ≡ ms)
