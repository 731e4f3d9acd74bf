-- Public. What some neighbouring elements of a march do to two cells, over all choices of direction.
use Rattle.std.specs.Prelude.{◌≡◌, ◌<◌, ◌-◌, ◌%◌, ◌^◌, ℕ, Bool, List, [], ◌∷◌, map, take, drop, IsTrue, slice_index_or}
use Rattle.std.specs.List.{range_with_len}
use Rattle.fault_core.specs.Primitive.{Primitive}
use Rattle.march_core.specs.March.{MarchElement}
use Rattle.march_core.specs.Visits.{Direction, MarchStep, is_direction, direction_at, visits_from}
use Rattle.array_sim.specs.Differing.{left_behind, after_step, SomeDiffers}
use Rattle.cell_machine.specs.declared.pair.Pair.{Pair}
use Rattle.pair_tracker.specs.declared.placement.Placement.{Placement}
use Rattle.pair_tracker.specs.declared.placement.Placement.TheVariants.{Alone, Below, Above}
use Rattle.pair_tracker.specs.declared.placement.Survivor.{Survivor}
use Rattle.pair_tracker.specs.Placements.{places_in, pair_in}
use Rattle.pair_tracker.specs.Survivors.{AreEnds, pair_number}

-- the elements from i to j-1
abbrev pub elements_between : List MarchElement → ℕ → ℕ → List MarchElement
elements_between march i j = take (j - i) (drop i march)

-- the directions that a word gives them
abbrev pub directions_between : ℕ → ℕ → ℕ → List Direction
directions_between word i j = map (direction_at word) (range_with_len i (j - i))

-- the two cells that a pair stands for
abbrev pub cells_in : Placement → Pair → List Bool
cells_in Alone pair = pair.v ∷ pair.a ∷ []
cells_in Below pair = pair.a ∷ pair.v ∷ []
cells_in Above pair = pair.v ∷ pair.a ∷ []

-- the steps of these elements on two cells, in the directions of a word
abbrev pub leg_steps : List MarchElement → ℕ → ℕ → ℕ → List MarchStep
leg_steps march i j word = visits_from i (elements_between march i j) (directions_between word i j) 2

-- these elements lead from a pair to another in the directions of a word, and no read differs; the cells are not closed first
pub record IsLeg (march : List MarchElement) (p : Primitive) (placement : Placement) (i j : ℕ) (start end : Pair) (word : ℕ) : Type 0 where
  pub allowed : IsTrue (is_direction (elements_between march i j) (directions_between word i j))
  -- the bits of the elements before i, and of those from j on, are 0
  pub before : word < 2 ^ (64 - i)
  pub behind : word % 2 ^ (64 - j) ≡ 0
  pub passes : SomeDiffers p (places_in placement) (cells_in placement start) (leg_steps march i j word) → ⊥
  pub ends : pair_in placement (left_behind (after_step p (places_in placement)) (cells_in placement start)
      (leg_steps march i j word)) ≡ end

-- each final pair that these elements lead to from a pair stands once, with its least word
abbrev pub AreLegEnds : List MarchElement → Primitive → Placement → ℕ → ℕ → Pair → List Survivor → Type 0
AreLegEnds march p placement i j start found = AreEnds (λ final word. IsLeg march p placement i j start final word) found

-- what a summary of some elements is seen as: its march, primitive and placement, the numbers i and j, and for each
-- start, in the order of the pairs, the ends
pub record Leg : Type 0 where
  pub march : List MarchElement
  pub prim : Primitive
  pub placement : Placement
  pub first : ℕ
  pub end : ℕ
  pub rows : List (List Survivor)

abbrev pub ends_from : Leg → Pair → List Survivor
ends_from leg start = slice_index_or leg.rows (pair_number start) []

-- it sums up the elements i to j-1
pub record SumsUp (march : List MarchElement) (p : Primitive) (placement : Placement) (i j : ℕ) (leg : Leg) : Type 0 where
  pub march_is : leg.march ≡ march
  pub prim_is : leg.prim ≡ p
  pub placement_is : leg.placement ≡ placement
  pub first_is : leg.first ≡ i
  pub end_is : leg.end ≡ j
  pub ends : (start : Pair) → AreLegEnds march p placement i j start (ends_from leg start)
