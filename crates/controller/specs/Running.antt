-- Public. Where in the code of a march a controller of this memory stands.
use Rattle.std.specs.Prelude.{List}
use Rattle.march_core.specs.March.{MarchElement}
use Rattle.memory_desc.specs.Descriptions.{Description}
use Rattle.microcode.specs.declared.code.Instr.{Instr}
use Rattle.microcode.specs.declared.place.CodePlace.{CodePlace}
use Rattle.microcode.specs.Running.{IsAt as IsPlaced, IsSomewhere as IsPlacedSomewhere}
use Rattle.controller.specs.Places.{extent_of}

abbrev pub IsAt : List MarchElement → List Instr → Description → CodePlace → Type 0
IsAt march code d p = IsPlaced march code (extent_of d) p

abbrev pub IsSomewhere : List Instr → Description → CodePlace → Type 0
IsSomewhere code d p = IsPlacedSomewhere code (extent_of d) p
