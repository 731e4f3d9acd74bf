-- Trusted. What several commands have in common: the boxes, the checks that more than one command makes, and what a run beside the first box leaves.
use Rattle.std.specs.Prelude.{◌≡◌, ◌≢◌, ◌<◌, ◌≤◌, ◌⊎◌, Bool, List, [], ◌∷◌, Some, None, Result, Ok, Err, MatchResult, drop}
use Rattle.march_core.specs.March.{MarchElement}
use Rattle.fault_core.specs.Primitive.{Primitive, has_aggressor}
use Rattle.memory_desc.specs.Descriptions.{Description}
use Rattle.verilog_tree.specs.Plain.{ModuleTree}
use Rattle.word_march.specs.Commands.{cycle_count}
use Rattle.self_test.specs.Refusals.{IsShort}
use Rattle.self_test.specs.WrongPort.{wrong_port}
use Rattle.word_device.specs.Boxes.{Told, TellsNothing}
use Rattle.bist_endings.specs.declared.ending.Refusal.{Refusal}
use Rattle.bist_endings.specs.declared.ending.DeviceRefusal.{DeviceRefusal}
use Rattle.bist_endings.specs.declared.ending.Misfit.{Misfit}
use Rattle.bist_endings.specs.declared.ending.VerilogRefusal.{VerilogRefusal}
use Rattle.bist_endings.specs.Ending.{Done}
use Rattle.bist_endings.specs.Then.{PassesWhere}

-- the boxes that the program is given, as they tell
abbrev pub Boxes : Type 0
Boxes = List Told

-- a box that is called tells its chip or its script
abbrev pub FirstTells : Boxes → Type 0
FirstTells [] = Unit {0}
FirstTells (box ∷ boxes) = box.tells ≢ TellsNothing

-- ---- the checks

-- an aggressor is given exactly for a primitive of two cells
abbrev pub FitsAggressor : Bool → Primitive → Result (Unit {0}) Refusal → Type 0
FitsAggressor given prim = PassesWhere (given ≡ has_aggressor prim) (Refusal.Misfit Misfit.Aggressor)

-- the test isn't too long
abbrev pub FitsLength : List MarchElement → Description → Result (Unit {0}) Refusal → Type 0
FitsLength march d = PassesWhere (IsShort march d) (Refusal.TooLong (cycle_count march d))

-- the ports are those of a self-test of the memory, in any order, or the first wrong one is named
unfoldable pub HasPorts : Description → ModuleTree → Result (Unit {0}) Refusal → Type 0
HasPorts d mo (Ok _) = wrong_port d mo.ports ≡ None
HasPorts d mo (Err (Refusal.Verilog (VerilogRefusal.WrongPort name))) = wrong_port d mo.ports ≡ Some name.bytes
HasPorts d mo (Err other) = ⊥

-- there is a box
unfoldable pub HasBox : Boxes → Result (Unit {0}) Refusal → Type 0
HasBox [] (Err (Refusal.Device DeviceRefusal.NoBox)) = Unit {0}
HasBox [] other = ⊥
HasBox (box ∷ boxes) (Ok _) = Unit {0}
HasBox (box ∷ boxes) (Err other) = ⊥

-- the first has room for the memory's words
unfoldable pub FitsRoom : Description → Boxes → Result (Unit {0}) Refusal → Type 0
FitsRoom d [] result = ⊥
FitsRoom d (box ∷ boxes) (Ok _) = d.words ≤ box.room
FitsRoom d (box ∷ boxes) (Err (Refusal.Device (DeviceRefusal.TooSmall words room))) = (box.room < d.words)
    × (words ≡ d.words) × (room ≡ box.room)
FitsRoom d (box ∷ boxes) (Err other) = ⊥

-- ---- the boxes that are left

-- What the run leaves of the boxes: the one that was benched is gone, and the others stay in their order; where memory ran out it may be gone
-- or not. It ends with no other refusal.
abbrev pub LeavesFirst : Boxes → Boxes → Result Done Refusal → Type 0
LeavesFirst boxes left (Ok done) = left ≡ drop 1 boxes
LeavesFirst boxes left (Err Refusal.NoMemory) = (left ≡ boxes) ⊎ (left ≡ drop 1 boxes)
LeavesFirst boxes left (Err other) = left ≡ boxes

-- a check before any box is called, and the rest where it gives a value: where it refuses, all boxes are as before
abbrev pub Before : {A : Type 0} → Boxes → Boxes → (Result A Refusal → Type 0) → (A → Result Done Refusal → Type 0)
    → Result Done Refusal → Type 0
Before {A} boxes left first rest result = (r : Result A Refusal) × first r
    × MatchResult r (λ a. rest a result) (λ e. (result ≡ Err e) × (left ≡ boxes))
