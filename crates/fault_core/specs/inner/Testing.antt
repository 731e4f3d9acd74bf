-- Inner. For proofs and private contracts alone: the test of the parts, by cases on the acts.
use Rattle.std.specs.Prelude.{Bool, true, false, not, ◌||◌, Option, Some, None}
use Rattle.fault_core.specs.declared.primitive.Act.{Act}
use Rattle.fault_core.specs.declared.primitive.Act.TheVariants.{Write, Read, Pause}
use Rattle.fault_core.specs.declared.primitive.Sense.{Sense}
use Rattle.fault_core.specs.Primitive.{same_bit, is_pause}

abbrev pub fault_by_act : Option Act → Bool → Bool → Option Bool → Bool
fault_by_act None state after None = not (same_bit after state)
fault_by_act (Some (Write bit)) state after None = not (same_bit after bit)
fault_by_act (Some Read) state after (Some bit) = not (same_bit after state) || not (same_bit bit state)
fault_by_act None state after (Some bit) = false
fault_by_act (Some (Write written)) state after (Some bit) = false
fault_by_act (Some Read) state after None = false
fault_by_act (Some Pause) state after None = not (same_bit after state)
fault_by_act (Some Pause) state after (Some bit) = false

abbrev pub is_fault_of : Sense → Bool → Option Bool → Bool
is_fault_of vic after answer = fault_by_act vic.act vic.state after answer

-- beside an aggressor nothing pauses
abbrev pub pauses_alone : Option Sense → Option Act → Bool
pauses_alone None act = true
pauses_alone (Some sense) act = not (is_pause sense.act || is_pause act)
