-- Inner. For proofs and private contracts alone: the boxes that are benched so far.
use Rattle.std.specs.Prelude.{◌≡◌, ◌+◌, ◌<◌, ◌≤◌, ◌⊎◌, ℕ, Bool, List, [], ◌∷◌, Option, is_some}
use Rattle.march_core.specs.March.{MarchElement}
use Rattle.memory_desc.specs.Descriptions.{Description}
use Rattle.word_device.specs.Boxes.{Tells}
use Rattle.bench.specs.declared.ending.Seen.{Seen}
use Rattle.bench.specs.Endings.{Runs}
use Rattle.bench.specs.Laws.{IsWrongRead, IsSeenOf}
use Rattle.verilog_tree.specs.Plain.{ModuleTree}
use Rattle.bist_app.specs.declared.benching.RunEnd.{RunEnd}
use Rattle.bist_app.specs.Shared.{Boxes}
use Rattle.bist_app.specs.BenchAll.{AreSeen, failing_of}

-- a run of a module with these registers, beside a box that tells this at its beginning, ended so
pub record EndsRun (mo : ModuleTree) (march : List MarchElement) (d : Description) (registers : List ℕ) (tells : Tells)
    (end : RunEnd) : Type 0 where
  pub now : List ℕ
  pub after : Tells
  pub runs : Runs mo march d registers now tells after end.fail end.done_cycle end.first

-- a run beside a box that tells this at its beginning ended with `fail`, or without
pub record IsEnd (march : List MarchElement) (d : Description) (tells : Tells) (failed : Bool) : Type 0 where
  pub seen : Option Seen
  pub is_seen : IsSeenOf march d tells seen
  pub read : IsWrongRead march d seen
  pub fail : failed ≡ is_some seen

-- so many boxes failed so far, and these are left: with what is seen of them there is what is seen of all
abbrev pub GoesOn : List MarchElement → Description → Boxes → Boxes → ℕ → Type 0
GoesOn march d boxes left failing =
    (later : List (Option Seen)) → AreSeen march d left later
    → (all : List (Option Seen)) × AreSeen march d boxes all × (failing_of all ≡ failing + failing_of later)

-- beside so many of these boxes a read differs
abbrev pub CountsFailing : List MarchElement → Description → Boxes → ℕ → Type 0
CountsFailing march d boxes failing = (seen : List (Option Seen)) × AreSeen march d boxes seen × (failing ≡ failing_of seen)

-- the room of the first box without room for so many words, box by box
abbrev pub SmallRoom : ℕ → Boxes → ℕ → Type 0
SmallRoom words [] room = ⊥
SmallRoom words (box ∷ boxes) room = ((box.room < words) × (room ≡ box.room)) ⊎ ((words ≤ box.room) × SmallRoom words boxes room)
