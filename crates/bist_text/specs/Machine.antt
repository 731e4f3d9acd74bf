-- Trusted. A reader as a machine over bytes: what may still follow in a state is a relation between texts and values.
-- Four laws tie the machine to that relation, and from them comes everything that a reader promises: it
-- reads exactly the texts of its grammar, each to its one value, and refuses at exactly the first byte that
-- can't go on (`scan_exact` of proofs/Settled.antt).
use Rattle.std.specs.Prelude.{ℕ, ◌+◌, List, [], ◌∷◌, Option, Some, None}

-- P of the value that is there, and some value is there
abbrev pub Holds : {A : Type 0} → Option A → (A → Type 0) → Type 0
Holds None P = ⊥
Holds (Some x) P = P x

-- what a reader answers: a value, the first byte that can't go on, or that the text ended too early
pub data Outcome (V : Type 0) : Type 0 where
  read : V → Outcome V
  unexpected : ℕ → Outcome V
  truncated : Outcome V

abbrev pub ended : {V : Type 0} → Option V → Outcome V
ended None = truncated
ended (Some v) = read v

abbrev pub after : {S V : Type 0} → Option S → ℕ → (S → Outcome V) → Outcome V
after None k f = unexpected k
after (Some t) k f = f t

-- what a machine answers to a text whose first byte is byte k
abbrev pub scan : {S V : Type 0} → (S → ℕ → Option S) → (S → Option V) → List ℕ → S → ℕ → Outcome V
scan step value [] s k = ended (value s)
scan step value (c ∷ b) s k = after (step s c) k (λ t. scan step value b t (k + 1))
