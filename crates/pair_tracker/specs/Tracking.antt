-- Public. The elements of a march from one to another lead from a pair to another in the directions of a word.
use Rattle.std.specs.Prelude.{◌≡◌, ◌<◌, ◌-◌, ◌*◌, ◌^◌, ℕ, Bool, true, false, Some, List, length}
use Rattle.march_core.specs.March.{MarchElement}
use Rattle.march_core.specs.Visits.{Direction, Upward, Downward, is_direction}
use Rattle.pair_tracker.specs.declared.placement.Placement.{Placement}
use Rattle.pair_tracker.specs.declared.placement.Placement.TheVariants.{Alone, Below, Above}
use Rattle.pair_tracker.specs.Legs.{elements_between, directions_between}
use Rattle.pair_tracker.specs.Few.{Machine, Order, few_run}

-- a word whose bits outside the elements i to j-1 are 0
pub record IsSpanWord (i j word : ℕ) : Type 0 where
  pub digits : ℕ
  pub is : word ≡ digits * 2 ^ (64 - j)
  pub within : digits < 2 ^ (j - i)

-- the elements i to j-1 lead from a state of the few cells to another in the directions of a word, and no read differs
pub record Leads {Q I : Type 0} (m : Machine Q I) (order : Order I) (march : List MarchElement) (i j : ℕ) (start end : Q) (word : ℕ) : Type 0 where
  pub span : IsSpanWord i j word
  pub allowed : is_direction (elements_between march i j) (directions_between word i j) ≡ true
  pub ends : few_run m order start (elements_between march i j) (directions_between word i j) ≡ Some end

-- they lead to an end that is wanted
pub record LeadsTo {Q I : Type 0} (wanted : Q → Bool) (m : Machine Q I) (order : Order I) (march : List MarchElement) (i j : ℕ)
    (start : Q) (word : ℕ) : Type 0 where
  pub end : Q
  pub is_wanted : wanted end ≡ true
  pub leads : Leads m order march i j start end word

-- any end will do
abbrev pub any_end : {Q : Type 0} → Q → Bool
any_end q = true

-- the few cells get through the whole march in the directions of a word
abbrev pub GetsThrough : {Q I : Type 0} → Machine Q I → Order I → List MarchElement → Q → ℕ → Type 0
GetsThrough m order march start word = LeadsTo any_end m order march 0 (length march) start word

-- what the bit of an element adds to a direction word
abbrev pub weight_in : ℕ → Direction → ℕ
weight_in weight Upward = 0
weight_in weight Downward = weight

-- whether the cell beside the victim has the lower address
abbrev pub is_below : Placement → Bool
is_below Alone = false
is_below Below = true
is_below Above = false
