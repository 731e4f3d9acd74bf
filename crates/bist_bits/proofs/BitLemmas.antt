-- What shifts and masks give, for the bodies of this crate.
use Rattle.std.proofs.lemmas.Bool.{cases_lt}
use Rattle.std.proofs.Common.{inl, inr, lit<, ◌≡◌, ℕ, suc, ◌+◌, ◌-◌, ◌*◌, ◌/◌, ◌%◌, ◌^◌, ◌<◌, ◌≤◌, sym, ◌∙◌, ap, subst, arith, bit_and, bit_or}
use Rattle.std.proofs.lemmas.Nat.{or_shifted, mul-add-lt, pow-add, and_mask, leading_top, pow_pos, mod_below}
use Rattle.std.proofs.lemmas.Nat.Bits.{ones_shr}
use Rattle.std.proofs.Math.Nat.{pow-le-pow_right, mod-eq_of_lt, mul_comm}
use Rattle.std.specs.Int.Count.{count_leading_zeros}
use Rattle.bist_bits.specs.Vector.{IsVector}
use Rattle.bist_bits.specs.Width.{IsWidthOf}

-- ones, shifted down to a width
pub ones_shifted_down : (w : ℕ) → 1 ≤ w → w ≤ 64 → 18446744073709551615 / 2 ^ (64 - w) ≡ 2 ^ w - 1
ones_shifted_down w p h =
    ones_shr 64 (64 - w) (omega arith) ∙ ap (λ (k : ℕ). 2 ^ k - 1) (let e : 64 - (64 - w) ≡ w = omega arith in e)

-- a value of v bits above one of w bits is a value of v + w bits
pub joined_below : (h l v w : ℕ) → h < 2 ^ v → l < 2 ^ w → h * 2 ^ w + l < 2 ^ (v + w)
joined_below h l v w p q =
    subst (λ (x : ℕ). h * 2 ^ w + l < x) (mul_comm (2 ^ w) (2 ^ v) ∙ sym (pow-add 2 v w)) (mul-add-lt h (2 ^ w) l (2 ^ v) p q)

pub joined_value : (h l v w : ℕ) → IsVector v h → IsVector w l → v + w ≤ 64 → bit_or (h * 2 ^ w % 18446744073709551616) l ≡ h * 2 ^ w + l
joined_value h l v w p q n =
    let below : h * 2 ^ w + l < 2 ^ (v + w) = joined_below h l v w p.fits q.fits in
    let top : 2 ^ (v + w) ≤ 2 ^ 64 = pow-le-pow_right (omega arith) n in
    let small : h * 2 ^ w < 18446744073709551616 = omega arith in
    ap (λ (x : ℕ). bit_or x l) (mod-eq_of_lt small) ∙ or_shifted h w l q.fits

pub joined_fits : (h l v w : ℕ) → IsVector v h → IsVector w l → v + w ≤ 64 → IsVector (v + w) (bit_or (h * 2 ^ w % 18446744073709551616) l)
joined_fits h l v w p q n =
    rw (joined_value h l v w p q n) (record { positive = (let one : 1 ≤ v = p.positive in omega arith); narrow = n; fits = joined_below h l v w p.fits q.fits })

pub masked_value : (x w : ℕ) → bit_and x (2 ^ w - 1) ≡ x % 2 ^ w
masked_value x w = and_mask x w

pub masked_fits : (x w : ℕ) → 1 ≤ w → w ≤ 64 → IsVector w (x % 2 ^ w)
masked_fits x w p n = record { positive = p; narrow = n; fits = mod_below x (2 ^ w) (pow_pos w) }

-- a width that holds a number of j + 1 bits is above j
above_top : (n j v : ℕ) → 2 ^ j ≤ n → n < 2 ^ v → suc j ≤ v
above_top n j v p h =
    elim (cases_lt j v) [
      | inl l ↦ l
      | inr l ↦ let q : 2 ^ v ≤ 2 ^ j = pow-le-pow_right (lit< tt) l in absurd (omega arith)
    ]

-- a number is as wide as its leading zeros leave
pub width_by_leading_zeros : (n : ℕ) → 0 < n → n < 2 ^ 64 → IsWidthOf n (64 - count_leading_zeros 64 n)
width_by_leading_zeros n p h =
    let t : (j : ℕ) × (count_leading_zeros 64 n + suc j ≡ 64) × (2 ^ j ≤ n) × (n < 2 ^ suc j) = leading_top 64 n p h in
    let e : suc t.0 ≡ 64 - count_leading_zeros 64 n = omega (arith, t.1) in
    subst (λ (w : ℕ). IsWidthOf n w) e (record { positive = omega arith; holds = t.3; least = λ v q r. above_top n t.0 v t.2 r })
