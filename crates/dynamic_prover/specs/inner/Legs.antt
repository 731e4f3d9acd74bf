-- Inner. Only helps proofs: the tables of the elements of a march, in which the code looks up where each leads.
use Rattle.std.specs.Prelude.{◌≡◌, ◌+◌, ◌*◌, ℕ, Bool, true, false, if◌then◌else◌, Option, Some, None, List, [], ◌∷◌, drop, slice_index_or}
use Rattle.std.specs.Option.{option_and_then, option_map}
use Rattle.march_core.specs.March.{MarchElement}
use Rattle.march_core.specs.Visits.{Direction, Upward, Downward, allows}
use Rattle.cell_machine.specs.declared.pair.Side.{Side}
use Rattle.cell_machine.specs.declared.pair.Side.TheVariants.{A, V}
use Rattle.pair_tracker.specs.declared.search.DeadEnds.{DeadEnds}
use Rattle.pair_tracker.specs.DeadEnds.{AreDead}
use Rattle.dynamic_core.specs.Primitive.{DynamicPrimitive}
use Rattle.dynamic_prover.specs.declared.own_cells.OwnCells.{OwnCells}
use Rattle.dynamic_prover.specs.declared.shape.Shape.{Shape}
use Rattle.dynamic_prover.specs.declared.leg.SweepLeg.{SweepLeg}
use Rattle.dynamic_prover.specs.declared.leg.Leg.{Leg}
use Rattle.dynamic_prover.specs.declared.leg.Leg.TheVariants.{Pause, Sweep}
use Rattle.dynamic_prover.specs.inner.Own.{disarmed}
use Rattle.dynamic_prover.specs.inner.Ways.{any_end}
use Rattle.dynamic_prover.specs.inner.Shapes.{in_direction, end_in}

abbrev pub bit_number : Bool → ℕ
bit_number true = 1
bit_number false = 0

abbrev pub own_number : OwnCells → ℕ
own_number q = bit_number q.pair.a * 4 + bit_number q.pair.v * 2 + bit_number q.armed

abbrev pub passed_where : Bool → OwnCells → OwnCells
passed_where are_any q = if are_any then disarmed q else q

-- what stands in a table for these cells
abbrev pub end_from : List (Option OwnCells) → OwnCells → Option OwnCells
end_from ends q = slice_index_or ends (own_number q) None

abbrev pub ends_on : SweepLeg → Side → List (Option OwnCells)
ends_on leg A = leg.on_aggressor
ends_on leg V = leg.on_victim

abbrev pub second_end : SweepLeg → Option Side → OwnCells → Option OwnCells
second_end leg None q = Some q
second_end leg (Some s) q = end_from (ends_on leg s) q

abbrev pub sweep_end : SweepLeg → Shape → OwnCells → Option OwnCells
sweep_end leg shape q =
    option_and_then (λ r. option_map (passed_where shape.above) (second_end leg shape.second r))
    (end_from (ends_on leg shape.first) (passed_where shape.below q))

-- where an element leads by its table
abbrev pub leg_end : Shape → Leg → OwnCells → Direction → Option OwnCells
leg_end shape Pause q Upward = Some (disarmed q)
leg_end shape Pause q Downward = None
leg_end shape (Sweep leg) q d = if allows leg.order d then sweep_end leg (in_direction d shape) q else None

-- a table of an element leads where the element leads
abbrev pub IsLeg : DynamicPrimitive → MarchElement → Leg → Type 0
IsLeg p e leg = (shape : Shape) (q : OwnCells) (d : Direction) → leg_end shape leg q d ≡ end_in p shape e q d

abbrev pub AreLegs : DynamicPrimitive → List MarchElement → List Leg → Type 0
AreLegs p [] [] = Unit {0}
AreLegs p [] (l ∷ ls) = ⊥
AreLegs p (e ∷ es) [] = ⊥
AreLegs p (e ∷ es) (l ∷ ls) = IsLeg p e l × AreLegs p es ls

-- what a search has found out of a shape
abbrev pub KnowsOf : Shape → List Leg → DeadEnds → Type 0
KnowsOf shape legs dead = AreDead own_number any_end (leg_end shape) (λ i. drop i legs) dead
