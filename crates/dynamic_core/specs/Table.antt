-- Trusted. The dynamic fault primitives of one and of two cells, in the order in which a list's words stand for them.
use Rattle.std.specs.Prelude.{Bool, true, false, not, Option, Some, None, List, [], ◌∷◌, ◌++◌, map}
use Rattle.std.specs.List.{flat_map}
use Rattle.fault_core.specs.declared.primitive.Act.{Act}
use Rattle.fault_core.specs.declared.primitive.Act.TheVariants.{Write, Read, Pause}
use Rattle.dynamic_core.specs.Primitive.{TwoActs, DynamicSense, DynamicPrimitive, left_by}

abbrev pub both_bits : List Bool
both_bits = false ∷ true ∷ []

-- the writes and the read, in their order
abbrev pub accesses : List Act
accesses = Write false ∷ Write true ∷ Read ∷ []

-- a state alone
abbrev pub holding : Bool → DynamicSense
holding state = record { state = state; acts = None }

-- a state and two acts
abbrev pub acting : Bool → Act → Act → DynamicSense
acting state first second = record { state = state; acts = Some (record { first = first; second = second }) }

-- the eighteen senses with acts: by the state, then by the first act, then by the second
abbrev pub acting_senses : List DynamicSense
acting_senses = flat_map (λ state. flat_map (λ first. map (acting state first) accesses) accesses) both_bits

-- the victim's state afterwards, and the answer
pub record Effect : Type 0 where
  pub after : Bool
  pub answer : Option Bool

abbrev pub effect : Bool → Option Bool → Effect
effect after answer = record { after = after; answer = answer }

-- what a second act on the victim can do wrong, where the first leaves this bit: a write leaves the other bit; a read flips
-- the bit and answers the flipped one, flips it and answers it as it was, or leaves it and answers the other
abbrev pub wrong_effects : Bool → Act → List Effect
wrong_effects left (Write bit) = effect (not bit) None ∷ []
wrong_effects left Read = effect (not left) (Some (not left)) ∷ effect (not left) (Some left) ∷ effect left (Some (not left)) ∷ []
wrong_effects left Pause = []

-- `<S/F/R>`, or `<A;S/F/R>` where there is an aggressor
abbrev pub primitive_of : Option DynamicSense → DynamicSense → Effect → DynamicPrimitive
primitive_of agg vic e = record { agg = agg; vic = vic; after = e.after; answer = e.answer }

-- the primitives in which the acts of a victim go wrong, beside this aggressor or none
abbrev pub by_acts : Option DynamicSense → DynamicSense → Option TwoActs → List DynamicPrimitive
by_acts agg vic None = []
by_acts agg vic (Some acts) = map (primitive_of agg vic) (wrong_effects (left_by vic.state acts.first) acts.second)

abbrev pub wrong_acts : Option DynamicSense → DynamicSense → List DynamicPrimitive
wrong_acts agg vic = by_acts agg vic vic.acts

abbrev pub wrong_victims : Option DynamicSense → List DynamicPrimitive
wrong_victims agg = flat_map (wrong_acts agg) acting_senses

-- the acts of an aggressor flip a victim that holds this state
abbrev pub disturbed : DynamicSense → Bool → DynamicPrimitive
disturbed agg state = primitive_of (Some agg) (holding state) (effect (not state) None)

abbrev pub disturbs : DynamicSense → List DynamicPrimitive
disturbs agg = map (disturbed agg) both_bits

-- the thirty of one cell
abbrev pub dyn_one_table : List DynamicPrimitive
dyn_one_table = wrong_victims None

-- the ninety-six of two cells: the acts are the aggressor's; or they are the victim's, beside either state of the aggressor
abbrev pub dyn_two_table : List DynamicPrimitive
dyn_two_table = flat_map disturbs acting_senses ++ flat_map (λ state. wrong_victims (Some (holding state))) both_bits
