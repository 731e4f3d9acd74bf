-- Inner. Only helps proofs: the small arrays that show every case, in their order.
use Rattle.std.specs.Prelude.{◌+◌, ◌==◌, ◌≡◌, ℕ, zero, suc, Bool, true, false, ◌&&◌, not, if◌then◌else◌, nat_lt, Option, Some, None, List, [], ◌∷◌, ◌++◌, map}
use Rattle.std.specs.List.{AllByRecursion, flat_map}
use Rattle.cell_machine.specs.declared.pair.Pair.{Pair}
use Rattle.cell_machine.specs.Pairs.{pair_of}
use Rattle.dynamic_core.specs.Primitive.{DynamicPrimitive}
use Rattle.dynamic_prover.specs.declared.shape.Shape.{Shape}
use Rattle.dynamic_prover.specs.declared.spot.Spot.{Spot}
use Rattle.dynamic_prover.specs.declared.escape.DynEscape.{DynEscape}
use Rattle.dynamic_prover.specs.inner.Own.{own_as}
use Rattle.dynamic_prover.specs.inner.Shapes.{shape_of}
use Rattle.pair_tracker.specs.Ways.{Leading, ways_word}
use Rattle.dynamic_prover.specs.declared.own_cells.OwnCells.{OwnCells}
use Rattle.dynamic_prover.specs.inner.Ways.{can_pass, least_ways}

abbrev pub spot_as : ℕ → Option ℕ → ℕ → Spot
spot_as size agg vic = record { size = size; agg = agg; vic = vic }

abbrev pub one_cell_spots : List Spot
one_cell_spots = spot_as 2 None 0 ∷ spot_as 2 None 1 ∷ spot_as 3 None 1 ∷ []

abbrev pub two_cell_spots : List Spot
two_cell_spots =
    spot_as 2 (Some 0) 1 ∷ spot_as 2 (Some 1) 0 ∷ spot_as 3 (Some 0) 1 ∷ spot_as 3 (Some 1) 0
    ∷ spot_as 3 (Some 1) 2 ∷ spot_as 3 (Some 2) 1 ∷ spot_as 4 (Some 1) 2 ∷ spot_as 4 (Some 2) 1 ∷ []

abbrev pub spots_of : Bool → List Spot
spots_of true = two_cell_spots
spots_of false = one_cell_spots

abbrev pub shape_at : Spot → Shape
shape_at s = shape_of s.agg s.vic s.size

-- no cell of the array is above this one
abbrev pub is_last_of : ℕ → ℕ → Bool
is_last_of cell size = not (nat_lt (cell + 1) size)

abbrev pub alone : List Pair
alone = pair_of false false ∷ pair_of false true ∷ []

abbrev pub aggressor_first : List Pair
aggressor_first = pair_of false false ∷ pair_of false true ∷ pair_of true false ∷ pair_of true true ∷ []

abbrev pub victim_first : List Pair
victim_first = pair_of false false ∷ pair_of true false ∷ pair_of false true ∷ pair_of true true ∷ []

abbrev pub starts_by : Option ℕ → ℕ → List Pair
starts_by None vic = alone
starts_by (Some a) vic = if nat_lt a vic then aggressor_first else victim_first

-- the contents of the two cells, in the order of the contents of the array
abbrev pub starts_of : Spot → List Pair
starts_of s = starts_by s.agg s.vic

abbrev pub is_place : Option ℕ → ℕ → Bool
is_place None x = false
is_place (Some a) x = a == x

-- the content of a cell, where all but the instance's hold 0
abbrev pub bit_at : Option ℕ → ℕ → Pair → ℕ → Bool
bit_at agg vic pair x = if x == vic then pair.v else (is_place agg x && pair.a)

-- the contents of so many cells from this one on
abbrev pub content_from : Option ℕ → ℕ → Pair → ℕ → ℕ → List Bool
content_from agg vic pair x zero = []
content_from agg vic pair x (suc n) = bit_at agg vic pair x ∷ content_from agg vic pair (x + 1) n

-- a small array with a content of its instance's cells
pub record Candidate : Type 0 where
  pub spot : Spot
  pub pair : Pair

abbrev pub candidate_at : Spot → Pair → Candidate
candidate_at s pair = record { spot = s; pair = pair }

abbrev pub candidates_at : Spot → List Candidate
candidates_at s = map (candidate_at s) (starts_of s)

abbrev pub candidates_of : List Spot → List Candidate
candidates_of spots = flat_map candidates_at spots

-- whether a candidate can pass, by where the elements lead in its shape
abbrev pub passes_by : {E : Type 0} → (Shape → Leading OwnCells E) → List E → Candidate → Bool
passes_by lead es c = can_pass (lead (shape_at c.spot)) es (own_as c.pair false)

-- an escape that is a candidate, with its least direction word
pub record IsMadeOf {E : Type 0} (lead : Shape → Leading OwnCells E) (es : List E) (p : DynamicPrimitive)
    (c : Candidate) (e : DynEscape) : Type 0 where
  pub prim : e.prim ≡ p
  pub size : e.size ≡ c.spot.size
  pub agg : e.agg ≡ c.spot.agg
  pub vic : e.vic ≡ c.spot.vic
  pub content : e.content ≡ content_from c.spot.agg c.spot.vic c.pair 0 5
  pub directions : e.directions ≡ ways_word 0 (least_ways (lead (shape_at c.spot)) es (own_as c.pair false))

-- no candidate of these can pass
abbrev pub NonePasses : {E : Type 0} → (Shape → Leading OwnCells E) → List E → List Candidate → Type 0
NonePasses lead es cs = AllByRecursion (λ c. passes_by lead es c ≡ false) cs

-- the first candidate that can pass
pub record IsFirstOf {E : Type 0} (lead : Shape → Leading OwnCells E) (es : List E) (p : DynamicPrimitive)
    (cs : List Candidate) (e : DynEscape) : Type 0 where
  pub before : List Candidate
  pub found : Candidate
  pub behind : List Candidate
  pub split : cs ≡ before ++ found ∷ behind
  pub none_before : NonePasses lead es before
  pub passes : passes_by lead es found ≡ true
  pub made : IsMadeOf lead es p found e

-- what a search among these candidates says
abbrev pub FindsFirst : {E : Type 0} → (Shape → Leading OwnCells E) → List E → DynamicPrimitive → List Candidate → Option DynEscape → Type 0
FindsFirst lead es p cs None = NonePasses lead es cs
FindsFirst lead es p cs (Some e) = IsFirstOf lead es p cs e
