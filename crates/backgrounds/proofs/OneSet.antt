-- Words of one size have one logarithmic set.
use Rattle.std.proofs.Common.{◌≡◌, ℕ, zero, suc, ◌+◌, ◌-◌, ◌<◌, List, [], ◌∷◌, length, slice_index, refl, sym, ◌∙◌, subst, arith, add-one}
use Rattle.std.proofs.Math.Path.{ap₂}
use Rattle.std.proofs.lemmas.Nat.Bits.{same_from_bits_below}
use Rattle.backgrounds.specs.Backgrounds.{IsLogarithm, IsStripe, IsLogSet}

logarithm_one : (size m n : ℕ) → IsLogarithm size m → IsLogarithm size n → m ≡ n
logarithm_one size m n p q = let a = p.least n q.enough in let b = q.least m p.enough in omega arith

stripe_one : (size k a b : ℕ) → IsStripe size k a → IsStripe size k b → a ≡ b
stripe_one size k a b p q = same_from_bits_below size a b p.fits q.fits (λ j h. p.bit j h ∙ sym (q.bit j h))

-- two lists of one length with the same entries
same_entries : (xs ys : List ℕ) → length xs ≡ length ys → ((i : ℕ) → i < length xs → slice_index xs i ≡ slice_index ys i) → xs ≡ ys
same_entries [] [] e h = refl
same_entries [] (y ∷ ys) e h = absurd (omega arith)
same_entries (x ∷ xs) [] e h = absurd (omega arith)
same_entries (x ∷ xs) (y ∷ ys) e h =
    ap₂ (λ (z : ℕ) (zs : List ℕ). z ∷ zs) (h 0 (omega arith)) (same_entries xs ys (omega arith) (λ i p. h (suc i) (omega arith)))

pub log_set_one : (size : ℕ) (xs ys : List ℕ) → IsLogSet size xs → IsLogSet size ys → xs ≡ ys
log_set_one size xs ys p q =
    let some_x = p.some in
    let some_y = q.some in
    let n = logarithm_one size (length xs - 1) (length ys - 1) p.count q.count in
    let len : length xs ≡ length ys = omega arith in
    same_entries xs ys len (at len)
  where
    at : length xs ≡ length ys → (i : ℕ) → i < length xs → slice_index xs i ≡ slice_index ys i
    at len zero h = p.solid ∙ sym q.solid
    at len (suc k) h =
        subst (λ (i : ℕ). slice_index xs i ≡ slice_index ys i) (add-one k)
        (stripe_one size k (slice_index xs (k + 1)) (slice_index ys (k + 1)) (p.stripes k (omega arith)) (q.stripes k (omega arith)))
