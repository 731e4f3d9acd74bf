-- One step of each loop.
use Rattle.std.proofs.Common.{◌≡◌, ◌≢◌, ℕ, ◌+◌, ◌*◌, ◌/◌, ◌%◌, ◌^◌, ◌<◌, refl, sym, ◌∙◌, ap, bit_and, bit_or, bit_xor, inl, inr, lit<, add-one}
use Rattle.std.proofs.Math.Path.{ap₂}
use Rattle.std.proofs.Math.Pow.{pow-lt}
use Rattle.std.proofs.Math.Nat.{zero-mul, one-mul, mod-eq_of_lt}
use Rattle.std.proofs.lemmas.Nat.Bits.{bit_at-lt, shr_and_one}
use Rattle.std.specs.Int.{bit_at}
use Rattle.std.specs.Int.Bits.{or_shifted_r, xor_comm}
use Rattle.scrambler.specs.Linear.{number, combination}
use Rattle.scrambler.proofs.LinearLemmas.{number-below, scaled, two_digits}

pub product_begun : (bit : ℕ → ℕ) → 0 ≡ number bit 0
unfolding number
product_begun bit = refl

pub combination_begun : (vector : ℕ → ℕ) (set : ℕ) → 0 ≡ combination vector 0 set
unfolding combination
combination_begun vector set = refl

-- one more bit
pub product_more : (bit : ℕ → ℕ) (i y : ℕ) → ((j : ℕ) → bit j < 2) → i < 16 → y ≡ number bit i
    → bit_or y (bit i * 2 ^ i % 65536) ≡ number bit (i + 1)
unfolding number
product_more bit i y digits h e =
    let low = number-below bit i (λ j _. digits j) in
    let place : bit i * 2 ^ i < 65536 = scaled (λ (x : ℕ). x < 65536) (bit i) (2 ^ i) (digits i) (lit< tt) (pow-lt h) in
    ap₂ bit_or e (mod-eq_of_lt place) ∙ or_shifted_r (bit i) i (number bit i) low ∙ ap (number bit) (sym (add-one i))

-- one more vector
pub combination_taken : (vector : ℕ → ℕ) (set i x : ℕ) → x ≡ combination vector i set → bit_and (set / 2 ^ i) 1 ≡ 1
    → bit_xor x (vector i) ≡ combination vector (i + 1) set
unfolding combination
combination_taken vector set i x e b =
    let bit : bit_at set i ≡ 1 = sym (shr_and_one set i) ∙ b in
    let whole : vector i ≡ bit_at set i * vector i = sym (ap (λ (d : ℕ). d * vector i) bit ∙ one-mul (vector i)) in
    xor_comm x (vector i) ∙ ap₂ bit_xor whole e ∙ ap (λ (n : ℕ). combination vector n set) (sym (add-one i))

pub combination_left : (vector : ℕ → ℕ) (set i x : ℕ) → x ≡ combination vector i set → bit_and (set / 2 ^ i) 1 ≢ 1
    → x ≡ combination vector (i + 1) set
unfolding combination
combination_left vector set i x e b =
    let same = shr_and_one set i in
    let small = bit_at-lt set i in
    let bit : bit_at set i ≡ 0 = elim (two_digits (bit_at set i) small) [ inl z ↦ z | inr o ↦ absurd (b (same ∙ o)) ] in
    let none : bit_at set i * vector i ≡ 0 = ap (λ (d : ℕ). d * vector i) bit ∙ zero-mul (vector i) in
    e ∙ ap (λ (n : ℕ). bit_xor n (combination vector i set)) (sym none) ∙ ap (λ (n : ℕ). combination vector n set) (sym (add-one i))
