-- Public. A march as one table an element: what each state of the few cells becomes in either direction. What the tables one after another lead to.
use Rattle.std.specs.Prelude.{◌≡◌, ◌⊎◌, Bool, true, false, Option, Some, List, [], ◌∷◌, map, Contains}
use Rattle.std.specs.List.{AllByRecursion}
use Rattle.fault_core.specs.Primitive.{Primitive}
use Rattle.march_core.specs.March.{MarchElement}
use Rattle.march_core.specs.Visits.{Upward, Downward}
use Rattle.cell_machine.specs.declared.pair.Pair.{Pair}
use Rattle.cell_machine.specs.Pairs.{pair_close}
use Rattle.pair_tracker.specs.declared.placement.Placement.{Placement}
use Rattle.pair_tracker.specs.declared.placement.Survivor.{Survivor}
use Rattle.pair_tracker.specs.Placements.{FitsPlacement}
use Rattle.pair_tracker.specs.Few.{Machine, Order, end_of}
use Rattle.pair_tracker.specs.Pairs.{machine_of, sides_in}
use Rattle.pair_tracker.specs.Tracking.{is_below}

-- what a state becomes in each direction; nothing where the element's order does not leave the direction open, or where a read differs
pub record Row (Q : Type 0) : Type 0 where
  pub upward : Option Q
  pub downward : Option Q

abbrev pub Table : Type 0 → Type 0
Table Q = Q → Row Q

abbrev pub table_of : {Q I : Type 0} → Machine Q I → Order I → MarchElement → Table Q
table_of m order e q = record { upward = end_of m order e q Upward; downward = end_of m order e q Downward }

abbrev pub Becomes : {Q : Type 0} → Row Q → Q → Type 0
Becomes row r = (row.upward ≡ Some r) ⊎ (row.downward ≡ Some r)

-- the composition of tables: a state becomes another by a direction of the first, and then by the others
abbrev pub Composed : {Q : Type 0} → List (Table Q) → Q → Q → Type 0
Composed [] q r = q ≡ r
Composed {Q} (t ∷ ts) q r = (s : Q) × Becomes (t q) s × Composed ts s r

-- no end that is wanted, or some
abbrev pub LeadsNowhere : {Q : Type 0} → (Q → Bool) → List (Table Q) → Q → Type 0
LeadsNowhere {Q} wanted ts q = (r : Q) → Composed ts q r → wanted r ≡ false

pub record LeadsSomewhere {Q : Type 0} (wanted : Q → Bool) (ts : List (Table Q)) (q : Q) : Type 0 where
  pub end : Q
  pub composed : Composed ts q end
  pub is_wanted : wanted end ≡ true

-- ---- the two cells of an instance

-- the tables of these elements for an instance at this placement
abbrev pub tables_at : Primitive → Placement → List MarchElement → List (Table Pair)
tables_at p placement es = map (table_of (machine_of p) (sides_in (is_below placement))) es

-- each pair that the tables lead to from a pair is listed, and nothing else
pub record AreComposed (ts : List (Table Pair)) (start : Pair) (found : List Survivor) : Type 0 where
  pub each : AllByRecursion (λ s. Composed ts start s.pair) found
  pub all : (final : Pair) → Composed ts start final → (s : Survivor) × Contains found s × (s.pair ≡ final)

-- the tables lead nowhere, from any two cells, wherever the instance stands
abbrev pub NothingPasses : List MarchElement → Primitive → Type 0
NothingPasses march p =
    (placement : Placement) → FitsPlacement p placement → (start final : Pair) → Composed (tables_at p placement march) (pair_close p start) final → ⊥

-- tables one after another are their compositions one after another
pub record AreJoined {Q : Type 0} (ts us : List (Table Q)) (q r : Q) : Type 0 where
  pub middle : Q
  pub first : Composed ts q middle
  pub second : Composed us middle r
