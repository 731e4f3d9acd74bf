-- Bounds on numbers by their digits.
use Rattle.std.proofs.Common.{◌≡◌, ℕ, zero, suc, ◌+◌, ◌*◌, ◌/◌, ◌^◌, ◌<◌, ◌≤◌, refl, sym, ◌∙◌, ap, arith, lit<}
use Rattle.std.proofs.Math.Nat.{mul-le-mul_right, pow-le-pow_right, pow-suc}
use Rattle.std.proofs.lemmas.Grind.{pow_more}
use Rattle.std.proofs.lemmas.Nat.{pow-add}

-- one more digit
pub digit_below : (radix i value digit : ℕ) → value < radix ^ i → digit < radix → value * radix + digit < radix ^ (i + 1)
digit_below radix i value digit h d =
    let small : value + 1 ≤ radix ^ i = omega arith in
    let scaled : (value + 1) * radix ≤ radix ^ i * radix = mul-le-mul_right radix small in
    let power : radix ^ (i + 1) ≡ radix ^ i * radix = pow_more radix i in
    omega arith

-- and it is in range while the digits of a longer text are
pub digit_fits : (radix i n value digit bound : ℕ) → value < radix ^ i → digit < radix → i < n → radix ^ n ≤ bound → value * radix + digit < bound
digit_fits radix i n value digit bound h d l f =
    let some : 0 < radix = omega arith in
    let longer : radix ^ (i + 1) ≤ radix ^ n = pow-le-pow_right some (omega arith) in
    let below : value * radix + digit < radix ^ (i + 1) = digit_below radix i value digit h d in
    omega arith

-- fewer digits, smaller numbers
pub fewer_digits : (radix n most : ℕ) → 0 < radix → n ≤ most → radix ^ n ≤ radix ^ most
fewer_digits radix n most some h = pow-le-pow_right some h

-- ---- words

pow_16 : (n : ℕ) → 16 ^ n ≡ 2 ^ (4 * n)
pow_16 zero = refl
pow_16 (suc n) =
    let step : 4 * suc n ≡ 4 * n + 4 = omega arith in
    pow-suc 16 n ∙ ap (λ (x : ℕ). x * 16) (pow_16 n) ∙ sym (pow-add 2 (4 * n) 4) ∙ ap (λ (k : ℕ). 2 ^ k) (sym step)

-- a word of so many bits has no more digits
pub word_digits : (bits word : ℕ) → word < 2 ^ bits → word < 16 ^ ((bits + 3) / 4)
word_digits bits word h =
    let room : bits ≤ 4 * ((bits + 3) / 4) = omega arith in
    let top : 2 ^ bits ≤ 2 ^ (4 * ((bits + 3) / 4)) = pow-le-pow_right (lit< tt) room in
    let same = pow_16 ((bits + 3) / 4) in
    omega arith
