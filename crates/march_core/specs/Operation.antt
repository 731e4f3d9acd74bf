-- Trusted. What an operation writes or expects, and when a list of operations is consistent.
use Rattle.std.specs.Prelude.{◌≡◌, Bool, true, false, Option, Some, None, List, ◌∷◌, ◌++◌}
use Rattle.std.specs.List.{AllByRecursion}
use Rattle.march_core.specs.declared.operation.Op.{Op}
use Rattle.march_core.specs.declared.operation.Op.TheVariants.{W0, W1, R0, R1}

-- the bit that a write writes
abbrev pub written_by : Op → Option Bool
written_by W0 = Some false
written_by W1 = Some true
written_by read = None

-- the bit that a read expects
abbrev pub expected_by : Op → Option Bool
expected_by R0 = Some false
expected_by R1 = Some true
expected_by write = None

-- whether this is a read that got another answer than it expects
abbrev pub is_wrong_of : Op → Option Bool → Bool
is_wrong_of W0 answer = false
is_wrong_of W1 answer = false
is_wrong_of R0 (Some false) = false
is_wrong_of R1 (Some true) = false
is_wrong_of read answer = true

-- none of these operations writes
abbrev pub HasNoWrite : List Op → Type 0
HasNoWrite ops = AllByRecursion (λ o. written_by o ≡ None) ops

-- the last write among these operations writes this bit
pub record LastWrites (ops : List Op) (bit : Bool) : Type 0 where
  pub before : List Op
  pub write : Op
  pub after : List Op
  pub split : ops ≡ before ++ write ∷ after
  pub writes : written_by write ≡ Some bit
  pub last : HasNoWrite after

-- each read that expects a bit has a write before it, and the last such write wrote that bit
abbrev pub IsConsistent : List Op → Type 0
IsConsistent ops =
    (before : List Op) (read : Op) (after : List Op) (bit : Bool)
    → ops ≡ before ++ read ∷ after → expected_by read ≡ Some bit → LastWrites before bit
