-- Words of a class, as grammars say them.
use Rattle.bist_text.proofs.keyed.Common.{Bool, Class, List, [], all_fit, all_of, and_from, and_parts, ap, arith, begins_identifier, begun_by, in_identifier, is_identifier, is_run, is_word, later, length, list_all, lt-ltb, ltb-true, nat_lt, refl, run_of, run_parts, suc, sym, true, up_to, zero-le, ℕ, ◌&&◌, ◌+◌, ◌<◌, ◌↔◌, ◌∙◌, ◌∷◌, ◌≡◌, ◌≤◌}

pub all_of_is : (p : ℕ → Bool) (w : List ℕ) → all_fit (all_of p) w ≡ list_all p w
all_of_is p [] = refl
all_of_is p (c ∷ w) = ap (λ t. p c && t) (all_of_is p w)

pub name_is : (w : List ℕ) → is_word (begun_by begins_identifier in_identifier) w ≡ is_identifier w
name_is [] = refl
name_is (c ∷ w) = ap (λ t. begins_identifier c && t) (all_of_is in_identifier w)

-- bytes of a kind, of which k stand before
fitting : (fits : Class) (p : ℕ → Bool) (most k : ℕ) (w : List ℕ) → ((n c : ℕ) → fits n c ≡ (p c && nat_lt (k + n) most)) → k ≤ most
    → all_fit fits w ≡ true → (list_all p w ≡ true) × (length w + k ≤ most)
fitting fits p most k [] f l h = (refl, omega arith)
fitting fits p most k (c ∷ w) f l h =
    let parts = and_parts (fits 0 c) (all_fit (later fits) w) h in
    let here = and_parts (p c) (nat_lt (k + 0) most) (sym (f 0 c) ∙ parts.0) in
    let room : k + 0 < most = ltb-true (k + 0) most here.1 in
    let rest = fitting (later fits) p most (suc k) w (λ n d. f (suc n) d ∙ ap (λ (m : ℕ). p d && nat_lt m most) (omega arith)) (omega arith) parts.1 in
    let few = rest.1 in
    (and_from (p c) (list_all p w) here.0 rest.0, omega arith)

fits_all : (fits : Class) (p : ℕ → Bool) (most k : ℕ) (w : List ℕ) → ((n c : ℕ) → fits n c ≡ (p c && nat_lt (k + n) most))
    → list_all p w ≡ true → length w + k ≤ most → all_fit fits w ≡ true
fits_all fits p most k [] f a l = refl
fits_all fits p most k (c ∷ w) f a l =
    let parts = and_parts (p c) (list_all p w) a in
    and_from (fits 0 c) (all_fit (later fits) w) (f 0 c ∙ and_from (p c) (nat_lt (k + 0) most) parts.0 (lt-ltb (k + 0) most (omega arith)))
    (fits_all (later fits) p most (suc k) w (λ n d. f (suc n) d ∙ ap (λ (m : ℕ). p d && nat_lt m most) (omega arith)) parts.1 (omega arith))

zero_first : (p : ℕ → Bool) (most : ℕ) (n c : ℕ) → up_to p most n c ≡ (p c && nat_lt (0 + n) most)
zero_first p most n c = ap (λ (m : ℕ). p c && nat_lt m most) (omega arith)

pub run_is : (p : ℕ → Bool) (most : ℕ) (w : List ℕ) → (is_word (up_to p most) w ≡ true) ↔ (is_run p most w ≡ true)
run_is p most [] = (λ h. (let z : ⊥ = cc in absurd z), λ h. (let k = (run_parts p most [] h).1 in absurd (omega arith)))
run_is p most (c ∷ w) = (
  λ h. let r = fitting (up_to p most) p most 0 (c ∷ w) (zero_first p most) zero-le h in let few = r.1 in run_of p most (c ∷ w) r.0 (omega arith) (omega arith),
  λ h. let r = run_parts p most (c ∷ w) h in let few = r.2 in fits_all (up_to p most) p most 0 (c ∷ w) (zero_first p most) r.0 (omega arith),
)
