-- Trusted. The printed form of a primitive: no blanks, and the state always shown.
use Rattle.std.specs.Prelude.{ℕ, Bool, Option, Some, None, List, [], ◌++◌, codes}
use Rattle.fault_core.specs.declared.primitive.Act.{Act}
use Rattle.fault_core.specs.declared.primitive.Act.TheVariants.{Write, Read, Pause}
use Rattle.fault_core.specs.declared.primitive.Sense.{Sense}
use Rattle.fault_core.specs.Primitive.{Primitive}
use Rattle.fault_syntax.specs.PrimText.{bit_text, answer_text}

-- a read shows the state before it
abbrev pub act_text : Bool → Option Act → List ℕ
act_text state None = []
act_text state (Some (Write bit)) = codes "w" ++ bit_text bit
act_text state (Some Read) = codes "r" ++ bit_text state
act_text state (Some Pause) = codes "t"

abbrev pub sense_text : Sense → List ℕ
sense_text sense = bit_text sense.state ++ act_text sense.state sense.act

abbrev pub aggressor_text : Option Sense → List ℕ
aggressor_text None = []
aggressor_text (Some sense) = sense_text sense ++ codes ";"

-- `<S/F/R>` or `<A;S/F/R>`
abbrev pub printed : Primitive → List ℕ
printed p = codes "<" ++ aggressor_text p.agg ++ sense_text p.vic ++ codes "/" ++ bit_text p.after ++ codes "/"
    ++ answer_text p.answer ++ codes ">"
