-- A line that grew by three parts.
use Rattle.std.proofs.Common.{◌≡◌, ℕ, List, ◌++◌, Result, Ok, Err, OnOk, ap, ◌∙◌, append_assoc}

pub three_parts : {E : Type 0} (result : Result (Unit {0}) E) (o a b c p q r : List ℕ) → p ≡ o ++ a → q ≡ p ++ b → OnOk result (r ≡ q ++ c) → OnOk result (r ≡ o ++ (a ++ b ++ c))
three_parts (Err e) o a b c p q r ep eq er = tt
three_parts (Ok u) o a b c p q r ep eq er = er ∙ ap (λ l. l ++ c) (eq ∙ ap (λ l. l ++ b) ep) ∙ simp append_assoc
