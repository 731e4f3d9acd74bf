-- Public. What is known of states from which no choice of directions leads to a wanted end.
use Rattle.std.specs.Prelude.{◌≡◌, ◌<◌, ◌≤◌, ◌+◌, ◌*◌, ℕ, Bool, true, false, None, List, [], ◌∷◌, slice_index_or}
use Rattle.pair_tracker.specs.declared.search.DeadEnds.{DeadEnds}
use Rattle.pair_tracker.specs.Ways.{Leading, word_by}

-- these are the elements from each number on; there are so many, and at most 64
pub record AreFrom {E : Type 0} (count : ℕ) (from : ℕ → List E) : Type 0 where
  pub few : count ≤ 64
  pub first : (i : ℕ) → i < count → (e : E) × (from i ≡ e ∷ from (i + 1))
  pub none : from count ≡ []

-- whether a state before an element is known to lead nowhere
abbrev pub is_dead : DeadEnds → ℕ → ℕ → Bool
is_dead dead i n = slice_index_or dead.known (8 * i + n) false

-- what was known stays known
abbrev pub StaysDead : DeadEnds → DeadEnds → Type 0
StaysDead old new = (i n : ℕ) → is_dead old i n ≡ true → is_dead new i n ≡ true

-- what is known is so
abbrev pub AreDead : {S E : Type 0} → (S → ℕ) → (S → Bool) → Leading S E → (ℕ → List E) → DeadEnds → Type 0
AreDead {S} number wanted lead from dead = (i : ℕ) (q : S) → is_dead dead i (number q) ≡ true → word_by wanted lead i (from i) q ≡ None
