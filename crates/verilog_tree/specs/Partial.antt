-- Trusted. What two numbers give of which either may be open.
use Rattle.std.specs.Prelude.{ℕ, cond, nat_eq, Option, Some, None}

-- what both numbers give
abbrev pub both : (ℕ → ℕ → ℕ) → Option ℕ → Option ℕ → Option ℕ
both f None b = None
both f (Some a) None = None
both f (Some a) (Some b) = Some (f a b)

-- the number that both are
abbrev pub agreed : Option ℕ → Option ℕ → Option ℕ
agreed None b = None
agreed (Some a) None = None
agreed (Some a) (Some b) = cond (nat_eq a b) (Some a) None
