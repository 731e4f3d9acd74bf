-- Trusted. The directions of a march as the bits of a word.
use Rattle.std.specs.Prelude.{◌≡◌, ◌==◌, ◌-◌, ◌/◌, ◌%◌, ◌^◌, ℕ, Bool, if◌then◌else◌, List, length, map, IsTrue}
use Rattle.std.specs.List.{range_with_len}
use Rattle.march_core.specs.March.{MarchElement}
use Rattle.march_core.specs.Directions.{Direction, Upward, Downward, is_direction}

-- element i stands at bit 63-i of a direction word, with 1 for downward
abbrev pub is_down_at : ℕ → ℕ → Bool
is_down_at word i = word / 2 ^ (63 - i) % 2 == 1

unfoldable pub direction_at : ℕ → ℕ → Direction
direction_at word i = if is_down_at word i then Downward else Upward

-- the directions of n elements that a word stands for
abbrev pub directions_of : ℕ → ℕ → List Direction
directions_of word n = map (direction_at word) (range_with_len 0 n)

-- a word that stands for directions of a march: the bits past the last element are 0
pub record FitsWord (elements : List MarchElement) (word : ℕ) : Type 0 where
  pub allowed : IsTrue (is_direction elements (directions_of word (length elements)))
  pub rest : word % 2 ^ (64 - length elements) ≡ 0
