-- Trusted. Bit vectors, as contracts see them: a width and a value.
use Rattle.std.specs.Prelude.{ℕ, ◌+◌, ◌-◌, ◌*◌, ◌/◌, ◌%◌, ◌^◌, ◌<◌, ◌≤◌}

pub record Vector : Type 0 where
  pub width : ℕ
  pub value : ℕ

-- from 1 to 64 bits, and a value that the width holds
pub record IsVector (width value : ℕ) : Type 0 where
  pub positive : 1 ≤ width
  pub narrow : width ≤ 64
  pub fits : value < 2 ^ width

-- the high bits, followed by the low ones
abbrev pub concat : Vector → Vector → Vector
concat high low = record { width = high.width + low.width; value = high.value * 2 ^ low.width + low.value }

-- the bits from `low` to `high`, both included
abbrev pub select : Vector → ℕ → ℕ → Vector
select x high low = record { width = high + 1 - low; value = x.value / 2 ^ low % 2 ^ (high + 1 - low) }
