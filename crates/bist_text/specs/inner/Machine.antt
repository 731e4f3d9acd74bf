-- Inner. For proofs and private contracts alone: the laws of a reader that is a machine over bytes, and what an exact reader answers.
use Rattle.std.specs.Prelude.{◌≡◌, ℕ, List, [], ◌∷◌, ◌++◌, ◌↔◌, Option, Some}
use Rattle.bist_text.specs.Grammar.{Continues, IsUnexpected, IsTruncated}
use Rattle.bist_text.specs.Machine.{Holds, Outcome, read, unexpected, truncated}

-- What may follow in each state, by what the machine does there: at a text's end and at each byte; a state
-- that is met can still be continued.
pub record Follows {S V : Type 0} (step : S → ℕ → Option S) (value : S → Option V) (rest : S → List ℕ → V → Type 0)
    (good : S → Type 0) : Type 0 where
  pub ends : (s : S) (v : V) → rest s [] v ↔ (value s ≡ Some v)
  pub goes : (s : S) (c : ℕ) (b : List ℕ) (v : V) → rest s (c ∷ b) v ↔ Holds (step s c) (λ t. rest t b v)
  pub alive : (s : S) → good s → Continues (rest s) []
  pub keeps : (s : S) (c : ℕ) (t : S) → good s → step s c ≡ Some t → good t

-- What a reader answers to b, for the grammar G: the value, or the refusal.
abbrev pub Answers : {V : Type 0} → (List ℕ → V → Type 0) → List ℕ → Outcome V → Type 0
Answers G b (read v) = G b v
Answers G b (unexpected k) = IsUnexpected G b k
Answers G b truncated = IsTruncated G b

-- Each answer comes exactly where the grammar has it.
pub record IsExact {V : Type 0} (G : List ℕ → V → Type 0) (b : List ℕ) (o : Outcome V) : Type 0 where
  pub reads : (v : V) → (o ≡ read v) ↔ G b v
  pub refuses : (k : ℕ) → (o ≡ unexpected k) ↔ IsUnexpected G b k
  pub ends_early : (o ≡ truncated) ↔ IsTruncated G b

-- whole is old and some more, of which P holds
abbrev pub Grows : {A : Type 0} → List A → List A → (List A → Type 0) → Type 0
Grows {A} old whole P = (more : List A) × (whole ≡ old ++ more) × P more
