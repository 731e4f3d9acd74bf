-- Trusted. The command `benchall MARCH MEMORY`: the self-test module against each box, one after another. Its shape, its checks in their order, and
-- what it leaves.
use Rattle.std.specs.Prelude.{◌≡◌, ◌<◌, ◌≤◌, ◌++◌, ℕ, nat_lt, List, [], ◌∷◌, Option, None, Result, Ok, Err, is_some, length, drop, codes, decimal, ◌≢◌}
use Rattle.std.specs.List.{filter}
use Rattle.bist_host.specs.Files.{Files}
use Rattle.march_core.specs.March.{MarchElement}
use Rattle.memory_desc.specs.Descriptions.{Description}
use Rattle.word_device.specs.Ports.{Chip}
use Rattle.word_device.specs.Boxes.{Told, Tells, TellsChip, TellsNothing}
use Rattle.bench.specs.declared.ending.Seen.{Seen}
use Rattle.bist_endings.specs.declared.ending.Refusal.{Refusal}
use Rattle.bist_endings.specs.declared.ending.DeviceRefusal.{DeviceRefusal}
use Rattle.bist_endings.specs.Ending.{Done}
use Rattle.bist_endings.specs.Words.{Words}
use Rattle.bist_inputs.specs.Inputs.{InputMarch}
use Rattle.bist_inputs.specs.Memories.{InputMemory}
use Rattle.bist_app.specs.Forms.{Form, Row}
use Rattle.bist_app.specs.Shared.{Boxes, FitsLength, HasBox, Before}
use Rattle.bist_app.specs.Bench.{IsSeen}
use Rattle.bist_endings.specs.Then.{OrNoMemory}

-- ---- the rooms

-- each box has room for so many words
abbrev pub HaveRoom : ℕ → Boxes → Type 0
HaveRoom words [] = Unit {0}
HaveRoom words (box ∷ boxes) = (words ≤ box.room) × HaveRoom words boxes

-- the first box without room for so many words has this room: those before it have room
pub record FirstSmall (words : ℕ) (boxes : Boxes) (room : ℕ) : Type 0 where
  pub before : Boxes
  pub box : Told
  pub behind : Boxes
  pub split : boxes ≡ before ++ box ∷ behind
  pub enough : HaveRoom words before
  pub small : box.room < words
  pub room_is : room ≡ box.room

-- each box has room for the memory's words
unfoldable pub FitsRooms : Description → Boxes → Result (Unit {0}) Refusal → Type 0
FitsRooms d boxes (Ok _) = HaveRoom d.words boxes
FitsRooms d boxes (Err (Refusal.Device (DeviceRefusal.TooSmall words room))) = (words ≡ d.words) × FirstSmall d.words boxes room
FitsRooms d boxes (Err other) = ⊥

-- every box is called, and tells
abbrev pub AllTell : Boxes → Type 0
AllTell [] = Unit {0}
AllTell (box ∷ boxes) = (box.tells ≢ TellsNothing) × AllTell boxes

-- ---- what is seen of the runs

-- what is seen of a box, as the command for one box has it; of a box that tells its chip no read differs
pub record IsBoxSeen (march : List MarchElement) (d : Description) (tells : Tells) (seen : Option Seen) : Type 0 where
  pub is_seen : IsSeen march d None tells seen
  pub passes : (chip : Chip) → tells ≡ TellsChip chip → seen ≡ None

-- what is seen of each box
abbrev pub AreSeen : List MarchElement → Description → Boxes → List (Option Seen) → Type 0
AreSeen march d [] [] = Unit {0}
AreSeen march d [] (seen ∷ rest) = ⊥
AreSeen march d (box ∷ boxes) [] = ⊥
AreSeen march d (box ∷ boxes) (seen ∷ rest) = IsBoxSeen march d box.tells seen × AreSeen march d boxes rest

-- of how many a read differs
abbrev pub failing_of : List (Option Seen) → ℕ
failing_of seen = length (filter is_some seen)

-- ---- what the command leaves

abbrev pub all_line : ℕ → ℕ → List ℕ
all_line count failing = codes "boxes " ++ decimal count ++ codes " failing " ++ decimal failing ++ codes "\n"

-- no file, and the line; the status is 1 exactly where some box fails
abbrev pub all_done : ℕ → ℕ → Done
all_done count failing = record { found = nat_lt 0 failing; outputs = []; line = all_line count failing }

-- what is seen of each box, and the count of those that fail
pub record IsAllBenched (march : List MarchElement) (d : Description) (boxes : Boxes) (done : Done) : Type 0 where
  pub seen : List (Option Seen)
  pub are_seen : AreSeen march d boxes seen
  pub done_is : done ≡ all_done (length boxes) (failing_of seen)

unfoldable pub LeavesAll : List MarchElement → Description → Boxes → Result Done Refusal → Type 0
LeavesAll march d boxes = OrNoMemory (IsAllBenched march d boxes)

-- some of the boxes from the first on are gone, possibly none, and the others stay in their order
abbrev pub AreGone : Boxes → Boxes → Type 0
AreGone boxes left = (gone : ℕ) × (left ≡ drop gone boxes)

-- every box is gone; where memory ran out only some may be, and after any other refusal all are as before
abbrev pub LeavesNone : Boxes → Boxes → Result Done Refusal → Type 0
LeavesNone boxes left (Ok done) = left ≡ []
LeavesNone boxes left (Err Refusal.NoMemory) = AreGone boxes left
LeavesNone boxes left (Err other) = left ≡ boxes

-- the checks behind the inputs, in their order, and the runs
abbrev pub TestsAll : List MarchElement → Description → Boxes → Boxes → Result Done Refusal → Type 0
TestsAll march d boxes left =
    Before boxes left (FitsLength march d) (λ _.
    Before boxes left (HasBox boxes) (λ _.
    Before boxes left (FitsRooms d boxes) (λ _ outcome.
    LeavesAll march d boxes outcome × LeavesNone boxes left outcome)))

-- the checks of `benchall` in their order
abbrev pub DecidesBenchAll : Option Files → Boxes → Boxes → Words → Result Done Refusal → Type 0
DecidesBenchAll files boxes left words =
    Before boxes left (InputMarch files words 1) (λ march.
    Before boxes left (InputMemory files words 2) (λ d.
    TestsAll march d boxes left))

-- ---- the row

abbrev pub bench_all_form : Form
bench_all_form = record { name = codes "benchall"; count = 3; first = 1; last = 3 }

abbrev pub bench_all_row : Row
bench_all_row = record {
  form = bench_all_form;
  says = λ words. Unit {0};
  decides = λ files boxes left words outcome. DecidesBenchAll files boxes left words outcome;
  called_tell = λ boxes. AllTell boxes;
  settled = λ outputs. outputs;
}
