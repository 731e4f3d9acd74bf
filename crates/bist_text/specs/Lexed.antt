-- Public. A reader of tokens over a reader of bytes: a lexer gives tokens, a parser takes them, and the two together
-- are one machine over bytes (`both_follows` of proofs/Lexed.antt).
use Rattle.std.specs.Prelude.{ℕ, Bool, true, false, Option, Some, None}

abbrev pub advance : {S T : Type 0} → (S → T → Option S) → S → Option T → Option S
advance step s None = Some s
advance step s (Some t) = step s t

abbrev pub then : {A B : Type 0} → Option A → (A → Option B) → Option B
then None f = None
then (Some x) f = f x

abbrev pub only_if : {A : Type 0} → Bool → A → Option A
only_if true x = Some x
only_if false x = None

pub record Both (S L : Type 0) : Type 0 where
  pub parser : S
  pub lexer : L

-- a byte of the text
abbrev pub both_step : {S L T : Type 0} → (L → ℕ → Option (L × Option T)) → (S → T → Option S) → (S → L → Bool)
    → Both S L → ℕ → Option (Both S L)
both_step lex step live q c = then (lex q.lexer c)
    (λ r. then (advance step q.parser r.1) (λ s. only_if (live s r.0) (record { parser = s; lexer = r.0 })))

abbrev pub both_value : {S L T V : Type 0} → (L → Option (Option T)) → (S → T → Option S) → (S → Option V) → Both S L → Option V
both_value last step value q = then (last q.lexer) (λ o. then (advance step q.parser o) value)
