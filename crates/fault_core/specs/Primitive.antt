-- Trusted. Static fault primitives <S/F/R>, after van de Goor and Al-Ars.
use Rattle.std.specs.Prelude.{◌≡◌, ◌≢◌, ◌↔◌, Bool, true, false, not, ◌&&◌, if◌then◌else◌, Option, Some, None, IsSome, is_some}
use Rattle.fault_core.specs.declared.primitive.Act.{Act}
use Rattle.fault_core.specs.declared.primitive.Act.TheVariants.{Write, Read, Pause}
use Rattle.fault_core.specs.declared.primitive.Sense.{Sense}
use Rattle.fault_core.specs.declared.primitive.PrimFault.{PrimFault}
use Rattle.fault_core.specs.declared.primitive.PrimFault.TheVariants.{NotAFault, TooManyOperations}

-- the parts of a primitive: the senses of the aggressor, if it has one, and of the victim; the victim's
-- state afterwards; and what a read of the victim answers
pub record Primitive : Type 0 where
  pub agg : Option Sense
  pub vic : Sense
  pub after : Bool
  pub answer : Option Bool

-- whether there is an aggressor with an act
abbrev pub agg_has_act : Option Sense → Bool
agg_has_act None = false
agg_has_act (Some sense) = is_some sense.act

-- whether an act is a pause
abbrev pub is_pause : Option Act → Bool
is_pause (Some Pause) = true
is_pause other = false

-- what makes the parts a fault
pub record IsPrimitive (p : Primitive) : Type 0 where
  -- the senses have at most one act together
  pub one_act : agg_has_act p.agg ≡ true → p.vic.act ≡ None
  -- a pause is an act of the victim alone, of a primitive without an aggressor
  pub paused : p.vic.act ≡ Some Pause → p.agg ≡ None
  pub unpaused : (sense : Sense) → p.agg ≡ Some sense → sense.act ≢ Some Pause
  -- the answer is a bit exactly where the victim's act is a read
  pub answered : IsSome p.answer ↔ (p.vic.act ≡ Some Read)
  -- a write leaves another bit than it writes
  pub wrong_write : (bit : Bool) → p.vic.act ≡ Some (Write bit) → p.after ≢ bit
  -- a read leaves or answers another bit than the state
  pub wrong_read : p.vic.act ≡ Some Read → p.after ≡ p.vic.state → p.answer ≢ Some p.vic.state
  -- a state without an act is left
  pub wrong_state : p.vic.act ≡ None → p.after ≢ p.vic.state
  -- a state is left over a pause
  pub wrong_pause : p.vic.act ≡ Some Pause → p.after ≢ p.vic.state

-- why parts that are no primitive are refused: two acts come first
abbrev pub refusal_of : Primitive → PrimFault
refusal_of p = if agg_has_act p.agg && is_some p.vic.act then TooManyOperations else NotAFault

-- whether there is an aggressor
abbrev pub has_aggressor : Primitive → Bool
has_aggressor p = is_some p.agg

-- whether it is a retention fault: its act is a pause
abbrev pub is_retention : Primitive → Bool
is_retention p = is_pause p.vic.act

-- whether two bits are the same
abbrev pub same_bit : Bool → Bool → Bool
same_bit true b = b
same_bit false b = not b
