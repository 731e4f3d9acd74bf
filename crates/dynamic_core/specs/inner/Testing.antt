-- Inner. For proofs and private contracts alone, beside Testing: the test of the parts, by cases on the acts.
use Rattle.std.specs.Prelude.{Bool, true, false, not, ◌&&◌, ◌||◌, Option, Some, None}
use Rattle.fault_core.specs.declared.primitive.Act.{Act}
use Rattle.fault_core.specs.declared.primitive.Act.TheVariants.{Write, Read, Pause}
use Rattle.fault_core.specs.Primitive.{same_bit}
use Rattle.dynamic_core.specs.Primitive.{TwoActs, left_by}

-- whether an act is a write or a read
abbrev pub is_access : Act → Bool
is_access (Write bit) = true
is_access Read = true
is_access Pause = false

-- whether the second act on a victim is a fault, where the first plainly leaves this bit
abbrev pub fault_by_second : Act → Bool → Bool → Option Bool → Bool
fault_by_second (Write bit) left after None = not (same_bit after bit)
fault_by_second Read left after (Some bit) = not (same_bit after left) || not (same_bit bit left)
fault_by_second (Write written) left after (Some bit) = false
fault_by_second Read left after None = false
fault_by_second Pause left after answer = false

-- the acts are the victim's
abbrev pub victim_fault : Bool → TwoActs → Bool → Option Bool → Bool
victim_fault state acts after answer = is_access acts.first && fault_by_second acts.second (left_by state acts.first) after answer

-- the acts are the aggressor's
abbrev pub aggressor_fault : Option TwoActs → Bool → Bool → Option Bool → Bool
aggressor_fault None state after answer = false
aggressor_fault (Some acts) state after (Some bit) = false
aggressor_fault (Some acts) state after None = (is_access acts.first && is_access acts.second) && not (same_bit after state)

-- the acts are those of the victim, where it has any, and else the aggressor's
abbrev pub fault_by_acts : Option TwoActs → Option TwoActs → Bool → Bool → Option Bool → Bool
fault_by_acts agg None state after answer = aggressor_fault agg state after answer
fault_by_acts agg (Some acts) state after answer = victim_fault state acts after answer
