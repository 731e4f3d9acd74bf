-- Inner. For proofs and private contracts alone, beside Places: where a reader of a module stands among its tokens: what is read so far, and what the part that is read stands in.
use Rattle.std.specs.Prelude.{ℕ}

-- behind a name: a select, or nothing of the expression
pub data Place : Type 0 where
  Whole : Place
  One : ℕ → Place
  Two : ℕ → ℕ → Place
