-- Public. The addresses of an element in the order of its direction.
use Rattle.std.specs.Prelude.{◌-◌, ℕ, Bool, true, false}
use Rattle.march_core.specs.Visits.{Direction, Upward, Downward}

abbrev pub direction_of : Bool → Direction
direction_of true = Downward
direction_of false = Upward

-- the address at a place in the order of a direction
unfoldable pub address_at : Direction → ℕ → ℕ → ℕ
address_at Upward place size = place
address_at Downward place size = size - 1 - place
