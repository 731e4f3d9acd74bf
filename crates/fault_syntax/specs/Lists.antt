-- Public. What the lines of a fault list bring, and the first line that is refused.
use Rattle.std.specs.Prelude.{Result, ℕ, List}
use Rattle.fault_core.specs.Primitive.{Primitive}
use Rattle.fault_syntax.specs.declared.fault.FaultFault.{FaultFault}
use Rattle.fault_syntax.specs.Answers.{RefusesAt}
use Rattle.fault_syntax.specs.LineByLine.{ReadsLines}
use Rattle.fault_syntax.specs.ListText.{Primitive as OnePrimitive, LineText}
use Rattle.fault_syntax.specs.Parts.{Brings}

-- what the bytes of a list are read as
abbrev pub ReadsList : List ℕ → Result (List Primitive) FaultFault → Type 0
ReadsList bytes r = ReadsLines LineText Brings OnePrimitive RefusesAt bytes r
