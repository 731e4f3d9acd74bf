-- What holds of a result that is passed on.
use Rattle.memory_desc.proofs.Common.{Err, List, MatchResult, Ok, Read, Result, ap, onward, stuck, subst, sym, took, ℕ, ◌∙◌, ◌≡◌}
use Rattle.std.specs.Result.{IsErr, IsErrAnd}

pub on_both : {T E : Type 0} {P Q : T → Type 0} {R S : E → Type 0} (r : Result T E) → MatchResult r P R → ((a : T) → P a → Q a) → ((e : E) → R e → S e) → MatchResult r Q S
on_both (Ok a) h f g = f a h
on_both (Err e) h f g = g e h

-- what the exit of a `?` returns
pub refused : {T E : Type 0} (P : T → Type 0) (Q : E → Type 0) (r : Result T E) (e : E) → IsErr r × IsErrAnd r (λ x. x ≡ e) → Q e → MatchResult r P Q
refused P Q (Ok a) e h q = absurd h.1
refused P Q (Err x) e h q = subst Q (sym h.1) q

-- a reader's first step
pub took_on : {A B : Type 0} {o : Read A} {a : A} {x : List ℕ} {p : Read B} (f : A → List ℕ → Read B) → o ≡ took a x → f a x ≡ p → onward o f ≡ p
took_on f e h = ap (λ o. onward o f) e ∙ h

pub stuck_on : {A B : Type 0} {o : Read A} {x : List ℕ} (f : A → List ℕ → Read B) → o ≡ stuck x → onward o f ≡ stuck x
stuck_on f e = ap (λ o. onward o f) e
