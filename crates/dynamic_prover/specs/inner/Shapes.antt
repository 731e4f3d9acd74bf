-- Inner. Only helps proofs: the shape of an array with one instance, which alone decides. It is the order of the instance's cells, and whether any
-- other cell lies below or above both.
use Rattle.std.specs.Prelude.{◌-◌, ℕ, zero, suc, Bool, true, false, if◌then◌else◌, nat_lt, Option, Some, None, List, [], ◌∷◌, ◌++◌}
use Rattle.march_core.specs.March.{MarchElement}
use Rattle.march_core.specs.Visits.{Direction, Upward, Downward}
use Rattle.cell_machine.specs.declared.pair.Side.{Side}
use Rattle.cell_machine.specs.declared.pair.Side.TheVariants.{A, V}
use Rattle.dynamic_core.specs.Primitive.{DynamicPrimitive}
use Rattle.dynamic_prover.specs.declared.own_cells.OwnCells.{OwnCells}
use Rattle.dynamic_prover.specs.declared.shape.Shape.{Shape}
use Rattle.pair_tracker.specs.Few.{Order, end_of}
use Rattle.pair_tracker.specs.Ways.{Leading}
use Rattle.dynamic_prover.specs.inner.Own.{machine_of}

abbrev pub is_some_cell : ℕ → Bool
is_some_cell zero = false
is_some_cell (suc n) = true

abbrev pub shape_as : Bool → Side → Option Side → Bool → Shape
shape_as below first second above = record { below = below; first = first; second = second; above = above }

-- of the cells between the two nothing is said
abbrev pub shape_of : Option ℕ → ℕ → ℕ → Shape
shape_of None v n = shape_as (is_some_cell v) V None (is_some_cell (n - 1 - v))
shape_of (Some a) v n =
    if nat_lt a v
    then shape_as (is_some_cell a) A (Some V) (is_some_cell (n - 1 - v))
    else shape_as (is_some_cell v) V (Some A) (is_some_cell (n - 1 - a))

-- the same from above
abbrev pub turned : Shape → Shape
turned s = turned_by s.below s.first s.second s.above
  where
    turned_by : Bool → Side → Option Side → Bool → Shape
    turned_by below first None above = shape_as above first None below
    turned_by below first (Some second) above = shape_as above second (Some first) below

abbrev pub in_direction : Direction → Shape → Shape
in_direction Upward s = s
in_direction Downward s = turned s

abbrev pub other_cells : Bool → List (Option Side)
other_cells true = None ∷ []
other_cells false = []

abbrev pub one_more : Option Side → List (Option Side)
one_more None = []
one_more (Some s) = Some s ∷ []

-- the cells in order, where None stands for any others
abbrev pub tags_of : Shape → List (Option Side)
tags_of s = other_cells s.below ++ Some s.first ∷ (one_more s.second ++ other_cells s.above)

-- the order in which a direction visits the cells of a shape
abbrev pub order_of : Shape → Order Side
order_of s d = tags_of (in_direction d s)

-- where an element leads in a direction, if its order leaves that open and no read differs
abbrev pub end_in : DynamicPrimitive → Shape → Leading OwnCells MarchElement
end_in p shape e q d = end_of (machine_of p) (order_of shape) e q d
