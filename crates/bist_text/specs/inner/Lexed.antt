-- Inner. For proofs and private contracts alone: the laws of a lexer and of a parser, and what may still follow for both.
use Rattle.std.specs.Prelude.{◌≡◌, ℕ, Bool, true, List, [], ◌∷◌, ◌↔◌, Option, Some, None}
use Rattle.bist_text.specs.Grammar.{are_bytes}
use Rattle.bist_text.specs.Machine.{Holds}
use Rattle.bist_text.specs.Lexed.{Both}

-- the tokens, behind the one that a byte ended
abbrev pub emitted : {T : Type 0} → Option T → List T → List T
emitted None us = us
emitted (Some t) us = t ∷ us

-- what may still come in a state of the lexer
pub record Lexes {L T : Type 0} (lex : L → ℕ → Option (L × Option T)) (last : L → Option (Option T))
    (unread : L → List ℕ → List T → Type 0) : Type 0 where
  pub ends : (l : L) (ts : List T) → unread l [] ts ↔ Holds (last l) (λ o. ts ≡ emitted o [])
  pub goes : (l : L) (c : ℕ) (b : List ℕ) (ts : List T) → unread l (c ∷ b) ts
      ↔ Holds (lex l c) (λ r. (us : List T) × (ts ≡ emitted r.1 us) × unread r.0 b us)

-- the same of a machine over tokens
pub record Parses {S T V : Type 0} (step : S → T → Option S) (value : S → Option V) (rest : S → List T → V → Type 0) : Type 0 where
  pub ends : (s : S) (v : V) → rest s [] v ↔ (value s ≡ Some v)
  pub goes : (s : S) (t : T) (ts : List T) (v : V) → rest s (t ∷ ts) v ↔ Holds (step s t) (λ q. rest q ts v)

-- whether what the lexer has begun can go on to tokens that the parser takes
pub record Decides {S L T V : Type 0} (live : S → L → Bool) (unread : L → List ℕ → List T → Type 0)
    (rest : S → List T → V → Type 0) : Type 0 where
  pub sound : (s : S) (l : L) → live s l ≡ true → (b : List ℕ) × (ts : List T) × (v : V) × (are_bytes b ≡ true)
      × unread l b ts × rest s ts v
  pub complete : (s : S) (l : L) (b : List ℕ) (ts : List T) (v : V) → unread l b ts → rest s ts v → live s l ≡ true

-- The bytes are lexed to tokens, which the parser takes.
abbrev pub both_rest : {S L T V : Type 0} → (L → List ℕ → List T → Type 0) → (S → List T → V → Type 0) → Both S L → List ℕ → V → Type 0
both_rest {T = T} unread rest q b v = (ts : List T) × unread q.lexer b ts × rest q.parser ts v
