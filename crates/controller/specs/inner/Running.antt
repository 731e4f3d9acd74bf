-- Inner. For proofs and private contracts alone, beside Running: where in the code of a march a controller of this memory stands.
use Rattle.std.specs.Prelude.{List, Option}
use Rattle.march_core.specs.March.{MarchElement}
use Rattle.memory_desc.specs.Descriptions.{Description}
use Rattle.microcode.specs.declared.code.Instr.{Instr}
use Rattle.microcode.specs.declared.place.CodePlace.{CodePlace}
use Rattle.microcode.specs.Running.{IsBehind as IsPlacedBehind}
use Rattle.controller.specs.Places.{extent_of}

abbrev pub IsBehind : List MarchElement → List Instr → Description → CodePlace → Option CodePlace → Type 0
IsBehind march code d p q = IsPlacedBehind march code (extent_of d) p q
