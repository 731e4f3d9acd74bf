-- Words of which no two are the same.
use Rattle.bist_app.proofs.Common.{◌≡◌, ◌≢◌, ◌≤◌, ◌-◌, ◌∙◌, ◌↔◌, ℕ, Bool, true, false, not, List, [], ◌∷◌, All, IsTrue, refl, sym, subst, arith, length, get_or, take, drop, take_all, Words}
use Rattle.std.proofs.Common.{Bor}
use Rattle.std.specs.List.{list_any}
use Rattle.std.proofs.lemmas.List.Folds.{list_any_none, list_any_at}
use Rattle.bist_app.specs.Forms.{AreDistinct}
use mathlib.Core.Bool.{true≢false}
use lib.Pointwise.{pointwise, bytes_decides}
use lib.Dec.{eqb}

abbrev pub same : Bor (List ℕ) → Bor (List ℕ) → Bool
same w v = pointwise eqb v.now w.now

is_false : (b : Bool) → (b ≡ true → ⊥) → b ≡ false
is_false true h = absurd (h refl)
is_false false h = refl

-- a word that isn't found is none of the others
none_same : (w : Bor (List ℕ)) (vs : Words) (found : Bool) → found ≡ list_any (same w) vs → found ≡ false → All (λ v. v.now ≢ w.now) vs
none_same w vs found is new k d l e =
    absurd (true≢false (sym (is ∙ list_any_at (same w) vs k d l ((bytes_decides _ _).1 e)) ∙ new))

not_found : (w : Bor (List ℕ)) (vs : Words) (found : Bool) → found ≡ list_any (same w) vs → All (λ v. v.now ≢ w.now) vs → found ≡ false
not_found w vs found is new =
    is ∙ list_any_none (same w) vs (λ k d l. is_false (same w (get_or vs k d)) (λ e. new k d l ((bytes_decides _ _).0 e)))

rest_of : (w : Bor (List ℕ)) (vs : Words) → take (length (w ∷ vs) - 1) (drop 1 (w ∷ vs)) ≡ vs
rest_of w vs = take_all (length (w ∷ vs) - 1) vs (omega arith)

pub first_and_rest : (ws : Words) (d : Bor (List ℕ)) (found rest : Bool) → 1 ≤ length ws
    → found ≡ list_any (same (get_or ws 0 d)) (take (length ws - 1) (drop 1 ws)) → found ≡ false
    → (IsTrue rest ↔ AreDistinct (take (length ws - 1) (drop 1 ws))) → (IsTrue rest ↔ AreDistinct ws)
first_and_rest [] d found rest some is new h = absurd (omega (arith, some))
first_and_rest (w ∷ vs) d found rest some is new h =
    let one = subst (λ l. found ≡ list_any (same w) l) (rest_of w vs) is in
    let all = subst (λ l. IsTrue rest ↔ AreDistinct l) (rest_of w vs) h in
    (λ t. (none_same w vs found one new, all.0 t), λ are. all.1 are.1)

pub first_met : (ws : Words) (d : Bor (List ℕ)) (found : Bool) → 1 ≤ length ws
    → found ≡ list_any (same (get_or ws 0 d)) (take (length ws - 1) (drop 1 ws)) → found ≡ true → (IsTrue (not found) ↔ AreDistinct ws)
first_met [] d found some is met = absurd (omega (arith, some))
first_met (w ∷ vs) d found some is met =
    let one = subst (λ l. found ≡ list_any (same w) l) (rest_of w vs) is in
    (λ t. absurd (true≢false (sym (subst (λ b. IsTrue (not b)) met t))), λ are. absurd (true≢false (sym met ∙ not_found w vs found one are.0)))
