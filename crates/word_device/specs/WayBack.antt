-- Public. The index of an address, by its low and its high byte.
use Rattle.std.specs.Prelude.{◌≡◌, ◌<◌, ◌/◌, ◌%◌, ◌^◌, ℕ, Option, Some, None, slice_index, bit_xor}
use Rattle.scrambler.specs.Scrambling.{Scrambling, logical}
use Rattle.word_device.specs.declared.way_back.WayBack.{WayBack}
use Rattle.word_device.specs.declared.shape.Shape.{Shape}

-- the only index with this address
pub record IsIndexOf (s : Scrambling) (a k : ℕ) : Type 0 where
  pub below : k < 2 ^ s.width
  pub back : logical s k ≡ a
  pub only : (j : ℕ) → j < 2 ^ s.width → logical s j ≡ a → j ≡ k

-- what the two bytes of an address lead to
abbrev pub led_to : WayBack → ℕ → ℕ
led_to way a = bit_xor (slice_index way.low (a % 256)) (slice_index way.high (a / 256))

abbrev pub IsWayBack : Scrambling → WayBack → Type 0
IsWayBack s way = (a : ℕ) → a < 2 ^ s.width → IsIndexOf s a (led_to way a)

-- the way back is that of the shape, where there is one
abbrev pub LeadsBack : Option Shape → WayBack → Type 0
LeadsBack None way = Unit {0}
LeadsBack (Some shape) way = IsWayBack shape.scramble way
