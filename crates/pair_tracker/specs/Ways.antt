-- Public. Elements that each lead on in one of two directions, from any state. Whether some choice of directions leads to an end that is wanted, and the first that does.
use Rattle.std.specs.Prelude.{◌+◌, ◌-◌, ◌^◌, ℕ, Bool, false, ◌||◌, if◌then◌else◌, Option, Some, None, List, [], ◌∷◌}
use Rattle.std.specs.Option.{option_and_then}
use Rattle.march_core.specs.Visits.{Direction, Upward, Downward}
use Rattle.pair_tracker.specs.Tracking.{weight_in}

-- where an element of some kind leads from a state in a direction, if it leads anywhere
abbrev pub Leading : Type 0 → Type 0 → Type 0
Leading S E = E → S → Direction → Option S

abbrev pub holds_at : {S : Type 0} → (S → Bool) → Option S → Bool
holds_at f None = false
holds_at f (Some r) = f r

abbrev pub ways_at : {S : Type 0} → (S → List Direction) → Option S → List Direction
ways_at g None = []
ways_at g (Some r) = g r

-- whether some directions lead to an end that is wanted
abbrev pub can_reach : {S : Type 0} → {E : Type 0} → (S → Bool) → Leading S E → List E → S → Bool
can_reach wanted lead [] q = wanted q
can_reach wanted lead (e ∷ es) q =
    holds_at (λ r. can_reach wanted lead es r) (lead e q Upward) || holds_at (λ r. can_reach wanted lead es r) (lead e q Downward)

-- the first directions that do: upward wherever the rest can still lead there
abbrev pub ways_to : {S : Type 0} → {E : Type 0} → (S → Bool) → Leading S E → List E → S → List Direction
ways_to wanted lead [] q = []
ways_to wanted lead (e ∷ es) q =
    if holds_at (λ r. can_reach wanted lead es r) (lead e q Upward)
    then Upward ∷ ways_at (λ r. ways_to wanted lead es r) (lead e q Upward)
    else Downward ∷ ways_at (λ r. ways_to wanted lead es r) (lead e q Downward)

-- where these directions lead
abbrev pub led_by : {S : Type 0} → {E : Type 0} → Leading S E → List E → S → List Direction → Option S
led_by lead [] q [] = Some q
led_by lead [] q (d ∷ ds) = None
led_by lead (e ∷ es) q [] = None
led_by lead (e ∷ es) q (d ∷ ds) = option_and_then (λ r. led_by lead es r ds) (lead e q d)

-- the direction word of the elements from one on
abbrev pub ways_word : ℕ → List Direction → ℕ
ways_word i [] = 0
ways_word i (d ∷ ds) = weight_in (2 ^ (63 - i)) d + ways_word (i + 1) ds

-- the least word of elements, the first of which has this number: that of the first directions that lead to the end
abbrev pub word_by : {S : Type 0} → {E : Type 0} → (S → Bool) → Leading S E → ℕ → List E → S → Option ℕ
word_by wanted lead i es q = if can_reach wanted lead es q then Some (ways_word i (ways_to wanted lead es q)) else None

-- the same from where an element leads, if it leads anywhere
abbrev pub word_behind : {S : Type 0} → (S → Option ℕ) → Option S → Option ℕ
word_behind words None = None
word_behind words (Some q) = words q

-- directions in their order: upward before downward, the first element first
abbrev pub IsNotAfter : List Direction → List Direction → Type 0
IsNotAfter [] ys = Unit {0}
IsNotAfter (x ∷ xs) [] = ⊥
IsNotAfter (Upward ∷ xs) (Upward ∷ ys) = IsNotAfter xs ys
IsNotAfter (Upward ∷ xs) (Downward ∷ ys) = Unit {0}
IsNotAfter (Downward ∷ xs) (Upward ∷ ys) = ⊥
IsNotAfter (Downward ∷ xs) (Downward ∷ ys) = IsNotAfter xs ys
