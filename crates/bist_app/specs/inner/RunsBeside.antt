-- Inner. For private contracts alone: what a run beside the first box needs, and leaves.
use Rattle.std.specs.Prelude.{◌≡◌, ◌^◌, ◌<◌, ◌≤◌, ℕ, List, [], ◌∷◌, Option, Some, None, is_some, IfSome}
use Rattle.march_core.specs.March.{MarchElement}
use Rattle.fault_core.specs.Primitive.{has_aggressor}
use Rattle.memory_desc.specs.Descriptions.{Description}
use Rattle.verilog_tree.specs.Plain.{ModuleTree}
use Rattle.self_test.specs.SelfTest.{SelfTest}
use Rattle.word_device.specs.Chips.{FitsMemory}
use Rattle.word_device.specs.declared.device.Planted.{Planted}
use Rattle.word_device.specs.Boxes.{Tells}
use Rattle.bench.specs.declared.ending.Seen.{Seen}
use Rattle.bist_endings.specs.Ending.{Done}
use Rattle.bist_app.specs.Shared.{Boxes}
use Rattle.bist_app.specs.Bench.{IsRun}
use Rattle.bist_app.specs.BenchFile.{IsFileRun}

-- the first box, where there is one, has room for so many words
abbrev pub FirstHasRoom : ℕ → Boxes → Type 0
FirstHasRoom words [] = Unit {0}
FirstHasRoom words (box ∷ boxes) = words ≤ box.room

-- the instance, if there is one, can stand in a memory of this shape
abbrev pub CanPlant : Description → Option Planted → Type 0
CanPlant d planted = IfSome planted (λ i. FitsMemory i d.words d.bits × (is_some i.agg ≡ has_aggressor i.prim))

-- the words that are seen have no more bits than the memory's
abbrev pub AreWords : ℕ → Option Seen → Type 0
AreWords bits None = Unit {0}
AreWords bits (Some seen) = (seen.expected < 2 ^ bits) × (seen.returned < 2 ^ bits)

-- what a run of a module with registers at 0 leaves, and of a self-test what a run of one leaves
pub record RunsBeside (mo : ModuleTree) (march : List MarchElement) (d : Description) (tells : Tells) (done : Done) : Type 0 where
  pub file_run : IsFileRun mo march d tells done
  pub self_test : SelfTest mo march d → IsRun march d tells done
