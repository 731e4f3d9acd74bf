-- Public. The two acts of a dynamic primitive as an array, and back.
use Rattle.std.specs.Prelude.{◌≡◌, Option, Some, None, List, [], ◌∷◌, length, refl}
use Rattle.fault_core.specs.declared.primitive.Act.{Act}
use Rattle.fault_core.specs.declared.primitive.Act.TheVariants.{Read}
use Rattle.dynamic_core.specs.Primitive.{TwoActs}

-- an array has two acts
abbrev pub HasTwo : Option (List Act) → Type 0
HasTwo None = Unit {0}
HasTwo (Some acts) = length acts ≡ 2

-- the acts of an array; the first two clauses are never met
abbrev pub two_acts : List Act → TwoActs
two_acts [] = record { first = Read; second = Read }
two_acts (a ∷ []) = record { first = a; second = Read }
two_acts (a ∷ b ∷ more) = record { first = a; second = b }

abbrev pub acts_in : Option (List Act) → Option TwoActs
acts_in None = None
acts_in (Some acts) = Some (two_acts acts)

abbrev pub array_of : Option TwoActs → Option (List Act)
array_of None = None
array_of (Some acts) = Some (acts.first ∷ acts.second ∷ [])

-- and back
pub array_back : {X : Type 0} (f : Option (List Act) → X) (acts : Option (List Act)) → HasTwo acts → f (array_of (acts_in acts)) ≡ f acts
array_back f None h = refl
array_back f (Some []) h = cc
array_back f (Some (a ∷ [])) h = cc
array_back f (Some (a ∷ b ∷ [])) h = refl
array_back f (Some (a ∷ b ∷ c ∷ more)) h = cc
