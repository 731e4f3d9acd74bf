-- Trusted. How many bits a number needs.
use Rattle.std.specs.Prelude.{ℕ, ◌^◌, ◌<◌, ◌≤◌}

-- w is the least width of at least 1 that holds n
pub record IsWidthOf (n w : ℕ) : Type 0 where
  pub positive : 1 ≤ w
  pub holds : n < 2 ^ w
  pub least : (v : ℕ) → 1 ≤ v → n < 2 ^ v → w ≤ v
