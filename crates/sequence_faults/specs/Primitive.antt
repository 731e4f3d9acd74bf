-- Public. Fault primitives <S/F/R> of one to three cells that a sequence of operations on one of them sensitizes, after van de Goor and Al-Ars.
use Rattle.std.specs.Prelude.{◌≡◌, ◌≢◌, ◌<◌, ◌≤◌, ◌-◌, ◌↔◌, ℕ, Bool, not, if◌then◌else◌, Option, Some, None, IsSome, List, [], ◌∷◌, length, slice_index_or, nat_eq, nat_lt, false}
use Rattle.std.specs.List.{AllByRecursion}
use Rattle.fault_core.specs.declared.primitive.Act.{Act}
use Rattle.fault_core.specs.declared.primitive.Act.TheVariants.{Write, Read, Pause}
use Rattle.fault_core.specs.declared.primitive.PrimFault.{PrimFault}
use Rattle.fault_core.specs.declared.primitive.PrimFault.TheVariants.{NotAFault, TooManyOperations}

-- the states of the cells, the aggressors' in the order of the text and the victim's last; which of these cells is operated on, and the
-- operations, one right behind the other; the victim's state afterwards; and what the last operation answers, where it is a read of the victim
pub record SequencePrimitive : Type 0 where
  pub states : List Bool
  pub actor : ℕ
  pub acts : List Act
  pub after : Bool
  pub answer : Option Bool

abbrev pub parts_of : List Bool → ℕ → List Act → Bool → Option Bool → SequencePrimitive
parts_of states actor acts after answer = record { states = states; actor = actor; acts = acts; after = after; answer = answer }

-- the victim is the last cell
abbrev pub victim_index : SequencePrimitive → ℕ
victim_index p = length p.states - 1

-- what an act plainly leaves of a bit, and acts one after another
abbrev pub left_by : Bool → Act → Bool
left_by state (Write bit) = bit
left_by state other = state

abbrev pub left_by_all : Bool → List Act → Bool
left_by_all state [] = state
left_by_all state (act ∷ acts) = left_by_all (left_by state act) acts

abbrev pub last_act : List Act → Option Act
last_act [] = None
last_act (act ∷ []) = Some act
last_act (act ∷ other ∷ acts) = last_act (other ∷ acts)

-- what the victim would hold behind the acts, were it good
abbrev pub good_after : SequencePrimitive → Bool
good_after p =
    let state : Bool = slice_index_or p.states (victim_index p) false in
    if nat_eq p.actor (victim_index p) then left_by_all state p.acts else state

-- what makes the parts a fault
pub record IsSequence (p : SequencePrimitive) : Type 0 where
  -- one to three cells, of which one is operated on
  pub few_cells : length p.states ≤ 3
  pub actor_there : p.actor < length p.states
  -- one to sixteen writes and reads
  pub some_acts : 0 < length p.acts
  pub few_acts : length p.acts ≤ 16
  pub accesses : AllByRecursion (λ act. act ≢ Pause) p.acts
  -- the answer is a bit exactly where the last act reads the victim
  pub answered : IsSome p.answer ↔ ((p.actor ≡ victim_index p) × (last_act p.acts ≡ Some Read))
  -- the victim is left in another state than a good one, or answers another bit
  pub wrong : p.after ≡ good_after p → p.answer ≡ Some (not (good_after p))

-- why parts that are no such primitive are refused: too many operations come first
abbrev pub refusal_of : List Act → PrimFault
refusal_of acts = if nat_lt 16 (length acts) then TooManyOperations else NotAFault
