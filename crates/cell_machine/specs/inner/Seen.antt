-- Inner. For proofs and private contracts alone, beside Seen: a pair as two cells of an array.
use Rattle.std.specs.Prelude.{◌≡◌, ◌≢◌, ◌<◌, ℕ, if◌then◌else◌, Some, None}
use Rattle.fault_core.specs.declared.cells.Places.{Places}
use Rattle.fault_core.specs.Primitive.{Primitive, has_aggressor}

-- an instance at these places is about cells a and at.vic of an array of this size: a is its aggressor's cell, or any
-- other address, a bystander's or one past the array, where it has no aggressor
pub record SeesPair (p : Primitive) (at : Places) (a : ℕ) (size : ℕ) : Type 0 where
  pub aggressor : at.agg ≡ (if has_aggressor p then Some a else None)
  pub apart : a ≢ at.vic
  pub victim : at.vic < size
