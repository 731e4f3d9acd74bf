-- Inner. For proofs and private contracts alone: what the parts of a chip's test make.
use Rattle.std.specs.Prelude.{◌≡◌, ◌≤◌, ◌<◌, ◌++◌, ℕ, true, [], All, Contains, List, length, map, take}
use Rattle.std.specs.List.{AllByRecursion}
use Rattle.march_core.specs.March.{MarchElement}
use Rattle.memory_desc.specs.Descriptions.{Description, IsMemory}
use Rattle.verilog_tree.specs.Plain.{ModuleTree}
use Rattle.verilog_tree.specs.Fits.{fits}
use Rattle.verilog_emit.specs.Printed.{printed}
use Rattle.self_test.specs.SelfTest.{SelfTest}
use Rattle.chip_desc.specs.Chips.{ChipDescription, IsChip}
use Rattle.chip_plan.specs.Groups.{FirstFit, last_group}
use Rattle.chip_rtl.specs.ChipTest.{TestUnit}
use Rattle.chip_rtl.specs.ChipLaws.{ShowsAll, AllTested, AllShow, memories, weights}
use Rattle.chip_rtl.specs.PrintedTop.{printed_units}
use Rattle.chip_rtl.specs.TopFits.{AllFit}
use Rattle.chip_rtl.specs.ChipFile.{ChipFile}
use Rattle.bist_app.specs.declared.units.UnitTable.{UnitTable}
use Rattle.bist_app.specs.inner.UnitTables.{IsTableOf}
use Rattle.bist_app.specs.Chip.{HasTakenName, ReadsFreely}

-- the table has the units of the chip
pub record IsRead (chip : ChipDescription) (t : UnitTable) (us : List TestUnit) : Type 0 where
  pub is_chip : IsChip chip
  pub table : IsTableOf t us
  pub weighing : weights us ≡ map (λ d. d.weight) chip.units
  pub known : All (λ u. IsMemory u.memory) us

-- and no name is taken
pub record IsReady (chip : ChipDescription) (t : UnitTable) (us : List TestUnit) : Type 0 where
  pub has_read : IsRead chip t us
  pub names : (unit : ℕ) → HasTakenName chip.name (memories us) unit → ⊥

-- behind the text stands now that of a self-test module
pub record PutsSelfTest (march : List MarchElement) (d : Description) (old new : List ℕ) : Type 0 where
  pub tree : ModuleTree
  pub fit : fits tree ≡ true
  pub tests : SelfTest tree march d
  pub shows : ShowsAll tree march d
  pub freely : ReadsFreely tree
  pub text : new ≡ old ++ printed tree

-- the text is that of self-test modules of these units, one behind another
pub record AreSelfTests (us : List TestUnit) (text : List ℕ) : Type 0 where
  pub trees : List ModuleTree
  pub fit : AllFit trees
  pub tested : AllTested trees us
  pub shown : AllShow trees us
  pub freely : AllByRecursion ReadsFreely trees
  pub are : text ≡ printed_units trees

-- the same of the first units of a table
abbrev pub PutSelfTests : UnitTable → ℕ → List ℕ → Type 0
PutSelfTests t n text = (us : List TestUnit) → IsTableOf t us → AreSelfTests (take n us) text

-- there are groups of a first fit, and a length for each unit
pub record CanStart (groups lengths : List ℕ) : Type 0 where
  pub some : 1 ≤ length groups
  pub few : length groups ≤ 16
  pub each : length lengths ≡ length groups
  pub sizes : All (λ l. (1 ≤ l) × (l ≤ 200000000)) lengths
  pub full : (k : ℕ) → k ≤ last_group groups → Contains groups k
  pub few_groups : last_group groups < length groups

-- in the groups of the first fit, the text is the chip's file
abbrev pub MakesFile : ChipDescription → UnitTable → List ℕ → List ℕ → Type 0
MakesFile chip t groups text = (us : List TestUnit) → IsReady chip t us → FirstFit chip.budget [] (weights us) groups
    → (file : ChipFile text chip.name us chip.budget) × AllShow file.chip.units us × AllByRecursion ReadsFreely file.chip.units
