-- Trusted. Dynamic fault primitives <S/F/R> of two operations, after van de Goor and Al-Ars.
use Rattle.std.specs.Prelude.{◌≡◌, ◌≢◌, ◌↔◌, Bool, not, ◌&&◌, if◌then◌else◌, Option, Some, None, IsSome, is_some}
use Rattle.fault_core.specs.declared.primitive.Act.{Act}
use Rattle.fault_core.specs.declared.primitive.Act.TheVariants.{Write, Read, Pause}
use Rattle.fault_core.specs.declared.primitive.PrimFault.{PrimFault}
use Rattle.fault_core.specs.declared.primitive.PrimFault.TheVariants.{NotAFault, TooManyOperations}

-- two acts on one cell, one right behind the other
pub record TwoActs : Type 0 where
  pub first : Act
  pub second : Act

-- a state, and the two acts, where they are on the cell that is to hold it
pub record DynamicSense : Type 0 where
  pub state : Bool
  pub acts : Option TwoActs

-- the parts of a dynamic primitive: the senses of the aggressor, if it has one, and of the victim; the victim's
-- state afterwards; and what a read of the victim answers
pub record DynamicPrimitive : Type 0 where
  pub agg : Option DynamicSense
  pub vic : DynamicSense
  pub after : Bool
  pub answer : Option Bool

-- what an act plainly leaves of a bit
abbrev pub left_by : Bool → Act → Bool
left_by state (Write bit) = bit
left_by state other = state

-- the acts of the aggressor, where it has any
abbrev pub aggressor_acts : Option DynamicSense → Option TwoActs
aggressor_acts None = None
aggressor_acts (Some sense) = sense.acts

-- the second act, where there are acts
abbrev pub second_act : Option TwoActs → Option Act
second_act None = None
second_act (Some acts) = Some acts.second

-- each of the two is a write or a read
pub record AreAccesses (acts : TwoActs) : Type 0 where
  pub first : acts.first ≢ Pause
  pub second : acts.second ≢ Pause

-- what makes the parts a dynamic fault
pub record IsDynamic (p : DynamicPrimitive) : Type 0 where
  -- exactly one of the senses has acts
  pub one_acts : is_some (aggressor_acts p.agg) ≡ not (is_some p.vic.acts)
  -- they are writes and reads
  pub agg_accesses : (acts : TwoActs) → aggressor_acts p.agg ≡ Some acts → AreAccesses acts
  pub vic_accesses : (acts : TwoActs) → p.vic.acts ≡ Some acts → AreAccesses acts
  -- the answer is a bit exactly where the acts are the victim's and the second is a read
  pub answered : IsSome p.answer ↔ (second_act p.vic.acts ≡ Some Read)
  -- a second act that writes leaves another bit than it writes
  pub wrong_write : (bit : Bool) → second_act p.vic.acts ≡ Some (Write bit) → p.after ≢ bit
  -- one that reads leaves or answers another bit than the first plainly leaves
  pub wrong_read : (acts : TwoActs) → p.vic.acts ≡ Some acts → acts.second ≡ Read → p.after ≡ left_by p.vic.state acts.first
      → p.answer ≢ Some (left_by p.vic.state acts.first)
  -- acts on the aggressor flip the victim
  pub wrong_state : p.vic.acts ≡ None → p.after ≢ p.vic.state

-- why parts that are no dynamic primitive are refused: acts in both senses come first
abbrev pub refusal_of : DynamicPrimitive → PrimFault
refusal_of p = if is_some (aggressor_acts p.agg) && is_some p.vic.acts then TooManyOperations else NotAFault

-- whether there is an aggressor
abbrev pub has_aggressor : DynamicPrimitive → Bool
has_aggressor p = is_some p.agg
