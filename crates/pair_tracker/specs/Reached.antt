-- Public. The words that a search through some elements of a march finds, what is known of states that lead nowhere, and the ends of a summary by these words.
use Rattle.std.specs.Prelude.{◌≤◌, ℕ, Bool, true, false, ◌&&◌, Option, Some, None, List, [], ◌∷◌, map, length}
use Rattle.std.specs.List.{filter_map}
use Rattle.std.specs.Option.{option_map}
use Rattle.fault_core.specs.Primitive.{Primitive, IsPrimitive, same_bit}
use Rattle.march_core.specs.March.{MarchElement, IsMarch}
use Rattle.cell_machine.specs.declared.pair.Pair.{Pair}
use Rattle.pair_tracker.specs.declared.placement.Placement.{Placement}
use Rattle.pair_tracker.specs.declared.placement.Survivor.{Survivor}
use Rattle.pair_tracker.specs.declared.search.DeadEnds.{DeadEnds}
use Rattle.pair_tracker.specs.Legs.{Leg, elements_between}
use Rattle.pair_tracker.specs.DeadEnds.{AreDead}
use Rattle.pair_tracker.specs.Few.{Machine, Order, end_of}
use Rattle.pair_tracker.specs.Pairs.{machine_of, sides_in}
use Rattle.pair_tracker.specs.Placements.{FitsPlacement}
use Rattle.pair_tracker.specs.Survivors.{pair_number}
use Rattle.pair_tracker.specs.Tracking.{is_below}
use Rattle.pair_tracker.specs.Ways.{word_by}

-- one end is wanted, or any
abbrev pub is_wanted : Option Pair → Pair → Bool
is_wanted None q = true
is_wanted (Some end) q = same_bit q.a end.a && same_bit q.v end.v

-- the least word of the elements i to j-1 that leads to an end that is wanted
abbrev pub word_to : {Q I : Type 0} → (Q → Bool) → Machine Q I → Order I → List MarchElement → ℕ → ℕ → Q → Option ℕ
word_to wanted m order march i j start = word_by wanted (end_of m order) i (elements_between march i j) start

-- the elements before this number are of a march
pub record IsWithin (march : List MarchElement) (j : ℕ) : Type 0 where
  pub is_march : IsMarch march
  pub within : j ≤ length march

-- what is known of the elements before this number of a march is so
abbrev pub AreDeadEnds : {Q I : Type 0} → (Q → ℕ) → (Q → Bool) → Machine Q I → Order I → List MarchElement → ℕ → DeadEnds → Type 0
AreDeadEnds number wanted m order march j dead = AreDead number wanted (end_of m order) (λ i. elements_between march i j) dead

-- what is known of the elements of a summary, whichever their end
abbrev pub KnowsOf : Leg → DeadEnds → Type 0
KnowsOf leg dead = AreDeadEnds pair_number (is_wanted None) (machine_of leg.prim) (sides_in (is_below leg.placement)) leg.march leg.end dead

-- the pairs in their order
abbrev pub all_pairs : List Pair
all_pairs =
    (record { a = false; v = false }) ∷ (record { a = false; v = true }) ∷ (record { a = true; v = false }) ∷ (record { a = true; v = true }) ∷ []

-- a pair with its word, where it has one
abbrev pub with_word : (Pair → Option ℕ) → Pair → Option Survivor
with_word words q = option_map (λ word. record { pair = q; directions = word }) (words q)

-- the least words from a start to each pair
abbrev pub words_from : List MarchElement → Primitive → Placement → ℕ → ℕ → Pair → Pair → Option ℕ
words_from march p placement i j start end = word_to (is_wanted (Some end)) (machine_of p) (sides_in (is_below placement)) march i j start

-- the pairs with their least words
abbrev pub ends_by : List MarchElement → Primitive → Placement → ℕ → ℕ → Pair → List Survivor
ends_by march p placement i j start = filter_map (with_word (words_from march p placement i j start)) all_pairs

-- the same for each start
abbrev pub rows_of : List MarchElement → Primitive → Placement → ℕ → ℕ → List (List Survivor)
rows_of march p placement i j = map (ends_by march p placement i j) all_pairs

-- the elements i to j-1 of a march, and an instance that stands in two cells
pub record IsSpan (march : List MarchElement) (p : Primitive) (placement : Placement) (i j : ℕ) : Type 0 where
  pub is_march : IsMarch march
  pub primitive : IsPrimitive p
  pub fits : FitsPlacement p placement
  pub ordered : i ≤ j
  pub within : j ≤ length march
