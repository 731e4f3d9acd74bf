-- Trusted. The command `sim MARCH PRIM SIZE CONTENT AGG VIC DIRS`: its shape, its checks in their order, and what it leaves.
use Rattle.std.specs.Prelude.{◌≡◌, ◌≢◌, ◌<◌, ◌≤◌, ◌⊎◌, ◌++◌, ◌==◌, ℕ, Bool, List, [], map, All, Option, Some, None, Result, length, codes, decimal, is_some, IsTrue, if◌then◌else◌}
use Rattle.bist_host.specs.Files.{Files}
use Rattle.march_core.specs.March.{MarchElement}
use Rattle.march_core.specs.Visits.{Direction, Upward, Downward, is_direction, visits}
use Rattle.fault_core.specs.declared.cells.Places.{Places}
use Rattle.fault_core.specs.Primitive.{Primitive}
use Rattle.fault_core.specs.Cells.{close_of}
use Rattle.march_core.specs.declared.visit.Miss.{Miss}
use Rattle.array_sim.specs.Detection.{IsCaught}
use Rattle.array_sim.specs.Differing.{IsFirstMiss}
use Rattle.bist_endings.specs.declared.ending.Refusal.{Refusal}
use Rattle.bist_endings.specs.declared.ending.Misfit.{Misfit}
use Rattle.bist_app.specs.declared.sim.SimShape.{SimShape}
use Rattle.bist_endings.specs.Ending.{Done}
use Rattle.bist_endings.specs.Then.{Then, OrNoMemory, PassesWhere, SaysOwn}
use Rattle.bist_endings.specs.Words.{Words, word, IsNumber}
use Rattle.bist_inputs.specs.Inputs.{InputMarch, GivesPrim}
use Rattle.bist_app.specs.Forms.{Form, Row, without_boxes}
use Rattle.bist_app.specs.Shared.{FitsAggressor}

-- a digit 0 or 1
abbrev pub IsBit : ℕ → Type 0
IsBit byte = (byte ≡ 48) ⊎ (byte ≡ 49)

-- a letter u or d
abbrev pub IsLetter : ℕ → Type 0
IsLetter byte = (byte ≡ 117) ⊎ (byte ≡ 100)

-- the aggressor's cell, which is not the victim's, or none
abbrev pub IsAggressorWord : List ℕ → ℕ → ℕ → Option ℕ → Type 0
IsAggressorWord text size victim None = text ≡ codes "none"
IsAggressorWord text size victim (Some cell) = IsNumber text cell × (cell < size) × (cell ≢ victim)

-- where the instance stands
abbrev pub places_of : SimShape → Places
places_of shape = record { agg = shape.aggressor; vic = shape.victim }

-- the numbers are what the words say
pub record IsSimShape (words : Words) (shape : SimShape) : Type 0 where
  pub size : IsNumber (word words 3) shape.size
  pub size_least : 2 ≤ shape.size
  pub size_most : shape.size ≤ 4096
  pub content : All IsBit (word words 4)
  pub content_length : length (word words 4) ≡ shape.size
  pub aggressor : IsAggressorWord (word words 5) shape.size shape.victim shape.aggressor
  pub victim : IsNumber (word words 6) shape.victim
  pub victim_within : shape.victim < shape.size
  pub letters : All IsLetter (word words 7)
  pub letters_least : 1 ≤ length (word words 7)
  pub letters_most : length (word words 7) ≤ 64

-- the cells whose digits these are
abbrev pub content_of : List ℕ → List Bool
content_of digits = map (λ b. b == 49) digits

-- the directions whose letters these are
abbrev pub letter_direction : ℕ → Direction
letter_direction letter = if letter == 100 then Downward else Upward

abbrev pub directions_of_letters : List ℕ → List Direction
directions_of_letters letters = map letter_direction letters

-- there is a letter for each element, which agrees with a fixed order
abbrev pub FitsDirections : List ℕ → List MarchElement → Result (Unit {0}) Refusal → Type 0
FitsDirections letters march = PassesWhere (IsTrue (is_direction march (directions_of_letters letters))) (Refusal.Misfit Misfit.Directions)

-- the first read that differs in a run on this content, or none where none does
abbrev pub FirstDiffers : List MarchElement → List Direction → Primitive → Places → List Bool → Option Miss → Type 0
FirstDiffers march directions prim at content None = IsCaught march directions prim at content → ⊥
FirstDiffers march directions prim at content (Some miss) =
    IsFirstMiss prim at (close_of prim at content) (visits march directions (length content)) miss

abbrev pub caught_line : Miss → List ℕ
caught_line miss =
    codes "caught element " ++ decimal miss.element ++ codes " address " ++ decimal miss.address ++ codes " operation "
    ++ decimal miss.op ++ codes "\n"

abbrev pub sim_line : Option Miss → List ℕ
sim_line None = codes "passes\n"
sim_line (Some miss) = caught_line miss

-- what a run leaves: no file, and one line
abbrev pub sim_done : Option Miss → Done
sim_done miss = record { found = is_some miss; outputs = []; line = sim_line miss }

-- the run in these places, from the content of the digits, in the directions of the letters
abbrev pub IsSimulated : List MarchElement → Primitive → Places → List ℕ → List ℕ → Done → Type 0
IsSimulated march prim at digits letters done =
    (miss : Option Miss) × FirstDiffers march (directions_of_letters letters) prim at (content_of digits) miss × (done ≡ sim_done miss)

unfoldable pub LeavesSim : List MarchElement → Primitive → Places → List ℕ → List ℕ → Result Done Refusal → Type 0
LeavesSim march prim at digits letters = OrNoMemory (IsSimulated march prim at digits letters)

-- the checks behind the command's own words, in their order
abbrev pub RunsSim : Option Files → Words → SimShape → Result Done Refusal → Type 0
RunsSim files words shape =
    Then (InputMarch files words 1) (λ march.
    Then (GivesPrim (word words 2)) (λ prim.
    Then (FitsAggressor (is_some shape.aggressor) prim) (λ _.
    Then (FitsDirections (word words 7) march) (λ _.
    LeavesSim march prim (places_of shape) (word words 4) (word words 7)))))

-- the checks of `sim` in their order
abbrev pub DecidesSim : Option Files → Words → Result Done Refusal → Type 0
DecidesSim files words = Then (SaysOwn (IsSimShape words)) (RunsSim files words)

-- ---- the row

abbrev pub sim_form : Form
sim_form = record { name = codes "sim"; count = 8; first = 1; last = 2 }

abbrev pub sim_row : Row
sim_row = record (without_boxes sim_form DecidesSim) { says = λ words. (shape : SimShape) × IsSimShape words shape }
