-- Trusted. The printed form of a dynamic primitive: no blanks, and the state always shown.
use Rattle.std.specs.Prelude.{ℕ, Bool, Option, Some, None, List, [], ◌++◌, codes}
use Rattle.fault_syntax.specs.Printed.{act_text}
use Rattle.fault_syntax.specs.PrimText.{bit_text, answer_text}
use Rattle.dynamic_core.specs.Primitive.{TwoActs, DynamicSense, DynamicPrimitive, left_by}

-- a read shows the content before it: the state, or what the first act leaves
abbrev pub acts_text : Bool → Option TwoActs → List ℕ
acts_text state None = []
acts_text state (Some acts) = act_text state (Some acts.first) ++ act_text (left_by state acts.first) (Some acts.second)

abbrev pub dynamic_sense_text : DynamicSense → List ℕ
dynamic_sense_text sense = bit_text sense.state ++ acts_text sense.state sense.acts

abbrev pub dynamic_aggressor_text : Option DynamicSense → List ℕ
dynamic_aggressor_text None = []
dynamic_aggressor_text (Some sense) = dynamic_sense_text sense ++ codes ";"

-- `<S/F/R>` or `<A;S/F/R>`
abbrev pub printed_dynamic : DynamicPrimitive → List ℕ
printed_dynamic p =
    codes "<" ++ dynamic_aggressor_text p.agg ++ dynamic_sense_text p.vic ++ codes "/" ++ bit_text p.after ++ codes "/"
    ++ answer_text p.answer ++ codes ">"
