-- Public. Places in a flat code.
use Rattle.std.specs.Prelude.{◌≡◌, true, false, List, Option, Some, None}
use Rattle.march_core.specs.March.{MarchElement, IsMarch}
use Rattle.microcode.specs.declared.code.Instr.{Instr}
use Rattle.microcode.specs.declared.place.Extent.{Extent}
use Rattle.microcode.specs.declared.place.CodePlace.{CodePlace}
use Rattle.microcode.specs.Code.{assemble, first_of}
use Rattle.microcode.specs.Places.{Place, IsPlace, first_place, next_place, is_last}

abbrev pub digits : CodePlace → Place
digits p = record { back = p.back; element = p.element; visit = p.visit; oper = p.oper }

-- a place of a march's run, of which this is the code
pub record IsAt (march : List MarchElement) (code : List Instr) (g : Extent) (p : CodePlace) : Type 0 where
  pub accepted : IsMarch march
  pub assembled : code ≡ assemble march
  pub first : p.first ≡ first_of march p.element
  pub place : IsPlace march g (digits p)

-- a place of the run of some march, of which this is the code
abbrev pub IsSomewhere : List Instr → Extent → CodePlace → Type 0
IsSomewhere code g p = (march : List MarchElement) × IsAt march code g p

-- the place behind this one, or none where it is the last
abbrev pub IsBehind : List MarchElement → List Instr → Extent → CodePlace → Option CodePlace → Type 0
IsBehind march code g p (Some q) = IsAt march code g q × (digits q ≡ next_place march g (digits p)) × (is_last march g (digits p) ≡ false)
IsBehind march code g p None = (is_last march g (digits p) ≡ true) × (next_place march g (digits p) ≡ first_place)
