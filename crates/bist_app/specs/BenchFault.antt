-- Trusted. The command `benchfault MARCH MEMORY PRIM AGG VIC`: the self-test module against the first box, in which an instance of a primitive is
-- planted. Its shape, its checks in their order, and what it leaves.
use Rattle.std.specs.Prelude.{◌≡◌, ◌≢◌, ◌<◌, ◌^◌, ◌++◌, ℕ, List, [], ◌∷◌, Option, Some, None, Result, IsTrue, codes, decimal, is_some}
use Rattle.bist_host.specs.Files.{Files}
use Rattle.march_core.specs.March.{MarchElement}
use Rattle.fault_core.specs.Primitive.{Primitive}
use Rattle.array_sim.specs.Detection.{Detects}
use Rattle.memory_desc.specs.Descriptions.{Description}
use Rattle.word_device.specs.declared.device.BitPlace.{BitPlace}
use Rattle.word_device.specs.declared.device.Planted.{Planted}
use Rattle.word_device.specs.Ports.{Chip}
use Rattle.word_device.specs.Boxes.{Tells, TellsChip}
use Rattle.bist_endings.specs.declared.ending.Refusal.{Refusal}
use Rattle.bist_endings.specs.declared.ending.DeviceRefusal.{DeviceRefusal}
use Rattle.bist_endings.specs.Ending.{Done}
use Rattle.bist_endings.specs.Words.{Words, word}
use Rattle.bist_inputs.specs.Inputs.{InputMarch, GivesPrim}
use Rattle.bist_inputs.specs.Memories.{InputMemory}
use Rattle.bist_app.specs.declared.benchfault_command.NamedPlace.{NamedPlace}
use Rattle.bist_app.specs.declared.benchfault_command.FaultShape.{FaultShape}
use Rattle.bist_app.specs.Forms.{Form, Row}
use Rattle.bist_app.specs.Shared.{Boxes, FirstTells, FitsAggressor, FitsLength, HasBox, FitsRoom, LeavesFirst, Before}
use Rattle.bist_app.specs.Bench.{IsBenched}
use Rattle.bist_endings.specs.Then.{OrNoMemory, PassesWhere, SaysOwn}

-- ---- the words

-- a word's number and a bit's number, joined by a full stop; both are decimal, without a leading zero, with at most 9 digits
abbrev pub IsPlaceWord : List ℕ → NamedPlace → Type 0
IsPlaceWord text place = (place.word < 10 ^ 9) × (place.bit < 10 ^ 9) × (text ≡ decimal place.word ++ codes "." ++ decimal place.bit)

-- the aggressor's place, or none
abbrev pub IsAggressorPlace : List ℕ → Option NamedPlace → Type 0
IsAggressorPlace text None = text ≡ codes "none"
IsAggressorPlace text (Some place) = IsPlaceWord text place

-- the places are what the words say
pub record IsFaultShape (words : Words) (shape : FaultShape) : Type 0 where
  pub aggressor : IsAggressorPlace (word words 4) shape.aggressor
  pub victim : IsPlaceWord (word words 5) shape.victim

-- ---- the places

-- the memory has this bit
abbrev pub IsWithin : Description → NamedPlace → Type 0
IsWithin d place = (place.word < d.words) × (place.bit < d.bits)

-- it has the aggressor's, where there is one, and in another word than the victim's
abbrev pub IsApart : Description → NamedPlace → Option NamedPlace → Type 0
IsApart d victim None = Unit {0}
IsApart d victim (Some place) = IsWithin d place × (place.word ≢ victim.word)

abbrev pub ArePlaces : Description → FaultShape → Type 0
ArePlaces d shape = IsWithin d shape.victim × IsApart d shape.victim shape.aggressor

-- the places are in the memory, and in two words
abbrev pub FitsPlaces : Description → FaultShape → Result (Unit {0}) Refusal → Type 0
FitsPlaces d shape = PassesWhere (ArePlaces d shape) (Refusal.Device DeviceRefusal.BadPlace)

-- the instance that the words name
abbrev pub place_in : NamedPlace → BitPlace
place_in place = record { word = place.word; bit = place.bit }

abbrev pub aggressor_in : Option NamedPlace → Option BitPlace
aggressor_in None = None
aggressor_in (Some place) = Some (place_in place)

abbrev pub planted_of : Primitive → FaultShape → Planted
planted_of prim shape = record { prim = prim; agg = aggressor_in shape.aggressor; vic = place_in shape.victim }

-- ---- what the command leaves

-- the line and the status are those of the run; beside a box that tells its chip, a primitive that the march detects is found
pub record IsFaultBenched (march : List MarchElement) (d : Description) (planted : Planted) (tells : Tells) (done : Done) : Type 0 where
  pub benched : IsBenched march d (Some planted) tells done
  pub caught : (chip : Chip) → tells ≡ TellsChip chip → Detects march planted.prim → IsTrue done.found

unfoldable pub LeavesFault : List MarchElement → Description → Planted → Boxes → Result Done Refusal → Type 0
LeavesFault march d planted [] result = ⊥
LeavesFault march d planted (box ∷ boxes) result = OrNoMemory (IsFaultBenched march d planted box.tells) result

-- the checks of the boxes and the places, in their order, and the run
abbrev pub PlantsFault : List MarchElement → Description → Primitive → FaultShape → Boxes → Boxes → Result Done Refusal → Type 0
PlantsFault march d prim shape boxes left =
    Before boxes left (HasBox boxes) (λ _.
    Before boxes left (FitsPlaces d shape) (λ _.
    Before boxes left (FitsRoom d boxes) (λ _ outcome.
    LeavesFault march d (planted_of prim shape) boxes outcome × LeavesFirst boxes left outcome)))

-- the checks behind the inputs, in their order
abbrev pub TestsFault : List MarchElement → Description → Primitive → FaultShape → Boxes → Boxes → Result Done Refusal → Type 0
TestsFault march d prim shape boxes left =
    Before boxes left (FitsAggressor (is_some shape.aggressor) prim) (λ _.
    Before boxes left (FitsLength march d) (λ _.
    PlantsFault march d prim shape boxes left))

-- the checks behind the command's own words, in their order
abbrev pub RunsFault : Option Files → Boxes → Boxes → Words → FaultShape → Result Done Refusal → Type 0
RunsFault files boxes left words shape =
    Before boxes left (InputMarch files words 1) (λ march.
    Before boxes left (InputMemory files words 2) (λ d.
    Before boxes left (GivesPrim (word words 3)) (λ prim.
    TestsFault march d prim shape boxes left)))

-- the checks of `benchfault` in their order
abbrev pub DecidesFault : Option Files → Boxes → Boxes → Words → Result Done Refusal → Type 0
DecidesFault files boxes left words = Before boxes left (SaysOwn (IsFaultShape words)) (λ shape. RunsFault files boxes left words shape)

-- ---- the row

abbrev pub bench_fault_form : Form
bench_fault_form = record { name = codes "benchfault"; count = 6; first = 1; last = 3 }

abbrev pub bench_fault_row : Row
bench_fault_row = record {
  form = bench_fault_form;
  says = λ words. (shape : FaultShape) × IsFaultShape words shape;
  decides = λ files boxes left words outcome. DecidesFault files boxes left words outcome;
  called_tell = λ boxes. FirstTells boxes;
  settled = λ outputs. outputs;
}
