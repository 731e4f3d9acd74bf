-- The terms of a printed row name its bits.
use Rattle.memory_desc.proofs.Common.{Bool, IsInvertible, List, Scrambling, Term, [], ap, arith, bit_at, bit_at-lt, bit_at-number, bit_at-pow_same, bit_xor, constant, constant_of, dot-zero_left, dot_below, false, from_bool, if◌then◌else◌, index_bit, index_bits, index_terms, inl, inr, is_term_too_wide, list_any, lt-leb, number-below, number-bits, one-mul, pow-lt, product, refl, row_terms, suc, sym, true, two_digits, xor_assoc, xor_comm, xor_shifted, xor_zero_l, xor_zero_r, zero, zero-mul, ℕ, ◌*◌, one_term, ◌<◌, ◌==◌, ◌^◌, ◌∙◌, ◌∷◌, ◌≡◌, ◌≤◌}
use Rattle.scrambler.specs.Linear.{number, dot}
use Rattle.scrambler.specs.Scrambling.{row}

-- what holds of terms, and still with an index bit of the address before them
with_indices : (P : List Term → Type 0) (width names n : ℕ) (ts : List Term) → ((j : ℕ) (us : List Term) → j < width → P us → P (index_bit j ∷ us)) → n ≤ width → P ts
    → P (index_terms names n ts)
with_indices P width names zero ts f h p = p
with_indices P width names (suc n) ts f h p = with_indices P width names n (if bit_at names n == 1 then index_bit n ∷ ts else ts) f (omega arith) (more (bit_at names n == 1))
  where
    more : (t : Bool) → P (if t then index_bit n ∷ ts else ts)
    more true = f n ts (omega arith) p
    more false = p

-- none of them is past the width
pub terms_within : (s : Scrambling) (i : ℕ) → list_any (is_term_too_wide s.width) (row_terms s i) ≡ false
terms_within s i =
    with_indices (λ ts. list_any (is_term_too_wide s.width) ts ≡ false) s.width (row s i) s.width (one_term (bit_at s.constant i))
    (λ j us l h. rw (lt-leb s.width j l) h) (omega arith) (one (bit_at s.constant i == 1))
  where
    one : (t : Bool) → list_any (is_term_too_wide s.width) (if t then constant true ∷ [] else []) ≡ false
    one true = refl
    one false = refl

pub terms_constant : (s : Scrambling) (i : ℕ) → from_bool (constant_of (row_terms s i)) ≡ bit_at s.constant i
terms_constant s i =
    with_indices (λ ts. from_bool (constant_of ts) ≡ bit_at s.constant i) s.width (row s i) s.width (one_term (bit_at s.constant i))
    (λ j us l h. h) (omega arith) (one (bit_at s.constant i) (bit_at-lt s.constant i))
  where
    one : (b : ℕ) → b < 2 → from_bool (constant_of (one_term b)) ≡ b
    one b h = elim (two_digits b h) [ inl e ↦ rw e refl | inr e ↦ rw e refl ]

-- a bit's term is worth its place
bit_term_bits : (n b : ℕ) (ts : List Term) → b < 2 → index_bits (if b == 1 then index_bit n ∷ ts else ts) ≡ bit_xor (b * 2 ^ n) (index_bits ts)
bit_term_bits n b ts h =
    elim (two_digits b h) [
      | inl e ↦ rw (e, zero-mul (2 ^ n)) (sym (xor_zero_l (index_bits ts)))
      | inr e ↦ rw (e, one-mul (2 ^ n)) refl
    ]

index_terms_bits : (names n : ℕ) (ts : List Term) → index_bits (index_terms names n ts) ≡ bit_xor (number (bit_at names) n) (index_bits ts)
unfolding number
index_terms_bits names zero ts = sym (xor_zero_l (index_bits ts))
index_terms_bits names (suc n) ts =
    let b = bit_at names n in
    let low = number (bit_at names) n in
    index_terms_bits names n (if b == 1 then index_bit n ∷ ts else ts)
    ∙ ap (bit_xor low) (bit_term_bits n b ts (bit_at-lt names n))
    ∙ sym (xor_assoc low (b * 2 ^ n) (index_bits ts))
    ∙ ap (λ (x : ℕ). bit_xor x (index_bits ts)) (xor_comm low (b * 2 ^ n) ∙ xor_shifted b n low (number-below (bit_at names) n (λ i _. bit_at-lt names i)))

-- the terms name the row
pub terms_bits : (s : Scrambling) (i : ℕ) → row s i < 2 ^ s.width → index_bits (row_terms s i) ≡ row s i
terms_bits s i fits =
    index_terms_bits (row s i) s.width (one_term (bit_at s.constant i))
    ∙ ap (bit_xor (number (bit_at (row s i)) s.width)) (one (bit_at s.constant i == 1))
    ∙ xor_zero_r (number (bit_at (row s i)) s.width) ∙ number-bits (row s i) s.width fits
  where
    one : (t : Bool) → index_bits (if t then constant true ∷ [] else []) ≡ 0
    one true = refl
    one false = refl

-- no row of an invertible matrix is empty
pub row_some : (s : Scrambling) (i : ℕ) → IsInvertible s → i < s.width → row s i ≡ 0 → ⊥
row_some s i inv p e =
    let hit = inv (2 ^ i) (pow-lt p) in
    let x = hit.0 in
    let here = bit_at-number (λ j. dot (row s j) x) s.width i (λ j _. dot_below (row s j) x) p in
    let empty : dot (row s i) x ≡ 0 = ap (λ (r : ℕ). dot r x) e ∙ dot-zero_left x in
    let top : bit_at (product s x) i ≡ 1 = ap (λ (y : ℕ). bit_at y i) hit.2 ∙ bit_at-pow_same i in
    let same : ◌≡◌ {A = ℕ} 1 0 = sym top ∙ here ∙ empty in
    omega (arith, same)
