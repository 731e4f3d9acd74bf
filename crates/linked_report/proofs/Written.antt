-- Texts that grow by a link, and by its cells.
use Rattle.std.proofs.Common.{◌≡◌, ◌++◌, ℕ, List, [], Result, Ok, Err, OnOk, ap, ◌∙◌, append_assoc}

-- a kind and two primitives behind a verdict
pub link_written : {E : Type 0} (result : Result (Unit {0}) E) (o verdict kind first second blank p q r : List ℕ) → p ≡ o ++ (verdict ++ kind ++ blank)
    → q ≡ p ++ ([] ++ first ++ blank) → OnOk result (r ≡ q ++ second) → OnOk result (r ≡ o ++ (verdict ++ (kind ++ blank ++ first ++ blank ++ second)))
link_written (Err e) o verdict kind first second blank p q r ep eq er = tt
link_written (Ok u) o verdict kind first second blank p q r ep eq er =
    er ∙ ap (λ l. l ++ second) (eq ∙ ap (λ l. l ++ ([] ++ first ++ blank)) ep) ∙ simp append_assoc
