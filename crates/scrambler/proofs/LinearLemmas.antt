-- Sums, products and combinations over two elements.
use Rattle.std.proofs.Common.{◌⊎◌, ◌≡◌, ℕ, zero, suc, ◌+◌, ◌*◌, ◌/◌, ◌%◌, ◌^◌, ◌<◌, min, refl, sym, ◌∙◌, ap, subst, arith, bit_and, bit_xor, count_ones, inl, inr, lit<}
use Rattle.std.proofs.lemmas.Nat.{pow_pos, and_comm, xor_lt, ones_cat, mod_below, mul-add-lt}
use Rattle.std.proofs.Math.Nat.{zero-mul, one-mul, mul_comm, pow-suc, mod-eq_of_lt, sub_self}
use Rattle.std.proofs.Math.Path.{ap₂}
use Rattle.std.proofs.lemmas.Bool.{cases_lt}
use Rattle.std.proofs.lemmas.Nat.Bits.{bit_at_cat_low, bit_at_cat_high, and_pow, bit_at_xor, same_from_bits_below, bit_at-lt, bit_at_lowest}
use Rattle.std.specs.Int.{bit_at}
use Rattle.std.specs.Int.Bits.{and_step, xor_shifted, xor_shr}
use Rattle.std.specs.Int.Count.{ones_step, ones-ones}
use lib.Arith.{bin_ind}
use Rattle.scrambler.specs.Linear.{dot, number, combination}

-- ---- the exclusive or of named bits

pub dot_below : (r x : ℕ) → dot r x < 2
unfolding dot
dot_below r x = mod_below (count_ones (bit_and r x)) 2 (lit< tt)

pub dot_comm : (r x : ℕ) → dot r x ≡ dot x r
unfolding dot
dot_comm r x = ap (λ (n : ℕ). count_ones n % 2) (and_comm r x)

pub dot-zero_left : (x : ℕ) → dot 0 x ≡ 0
unfolding dot
dot-zero_left x = ap (λ (n : ℕ). n % 2) (ones-ones 0)

pub dot-zero : (r : ℕ) → dot r 0 ≡ 0
dot-zero r = dot_comm r 0 ∙ dot-zero_left r

-- a number's ones, its lowest bit apart
ones_of_and : (r x : ℕ) → count_ones (bit_and r x) ≡ min (r % 2) (x % 2) + count_ones (bit_and (r / 2) (x / 2))
ones_of_and r x =
    let s = ones_step (bit_and r x) in
    let a = and_step r x in
    let half : bit_and r x / 2 ≡ bit_and (r / 2) (x / 2) = omega arith in
    let low : bit_and r x % 2 ≡ min (r % 2) (x % 2) = omega arith in
    s ∙ ap (λ (n : ℕ). bit_and r x % 2 + count_ones n) half ∙ ap (λ (n : ℕ). n + count_ones (bit_and (r / 2) (x / 2))) low

-- the lowest bits apart from the others
dot_step : (r x : ℕ) → dot r x ≡ (min (r % 2) (x % 2) + dot (r / 2) (x / 2)) % 2
unfolding dot
dot_step r x = omega (arith, ones_of_and r x)

xor_half : (a b : ℕ) → (bit_xor a b / 2 ≡ bit_xor (a / 2) (b / 2)) × (bit_xor a b % 2 ≡ (a % 2 + b % 2) % 2)
xor_half a b =
    (xor_shr a b 1, omega (arith, bit_at_xor a b 0, bit_at_lowest a, bit_at_lowest b, bit_at_lowest (bit_xor a b)))

dot_xor_half : (n : ℕ) → ((a b : ℕ) → dot (n / 2) (bit_xor a b) ≡ (dot (n / 2) a + dot (n / 2) b) % 2) → (a b : ℕ) → dot n (bit_xor a b) ≡ (dot n a + dot n b) % 2
dot_xor_half n ih a b =
    let x = xor_half a b in
    let sum = ih (a / 2) (b / 2) in
    let split = dot_step n (bit_xor a b) ∙ ap (λ (h : ℕ). (min (n % 2) (bit_xor a b % 2) + dot (n / 2) h) % 2) x.0 in
    omega (arith, dot_step n a, dot_step n b, x.1, dot_below (n / 2) (a / 2), dot_below (n / 2) (b / 2))

pub dot_xor : (r a b : ℕ) → dot r (bit_xor a b) ≡ (dot r a + dot r b) % 2
dot_xor = bin_ind (λ (r : ℕ). (a b : ℕ) → dot r (bit_xor a b) ≡ (dot r a + dot r b) % 2) (λ a b. omega (arith, dot-zero_left a, dot-zero_left b, dot-zero_left (bit_xor a b))) dot_xor_half

pub dot_xor_left : (r q x : ℕ) → dot (bit_xor r q) x ≡ (dot r x + dot q x) % 2
dot_xor_left r q x = omega (arith, dot_comm (bit_xor r q) x, dot_comm r x, dot_comm q x, dot_xor x r q)

-- ---- one bit

pub two_digits : (b : ℕ) → b < 2 → (b ≡ 0) ⊎ (b ≡ 1)
two_digits b h = elim (cases_lt b 1) [ inl l ↦ inl (omega arith) | inr l ↦ inr (omega arith) ]

ones-digit : (b : ℕ) → b < 2 → count_ones b ≡ b
ones-digit b h =
    elim (two_digits b h) [
      | inl e ↦ subst (λ (n : ℕ). count_ones n ≡ n) (sym e) (ones-ones 0)
      | inr e ↦ subst (λ (n : ℕ). count_ones n ≡ n) (sym e) (ones-ones 1)
    ]

pub dot-unit : (r i : ℕ) → dot r (2 ^ i) ≡ bit_at r i
unfolding dot
dot-unit r i =
    let digit = bit_at-lt r i in
    let alone : count_ones (bit_at r i * 2 ^ i + 0) ≡ bit_at r i + count_ones 0 =
    ones_cat i (bit_at r i) 0 (pow_pos i) ∙ ap (λ (n : ℕ). n + count_ones 0) (ones-digit (bit_at r i) digit) in
    let same : bit_and r (2 ^ i) ≡ bit_at r i * 2 ^ i + 0 = omega (arith, and_pow r i) in
    let all = ap count_ones same in omega (arith, alone, all, ones-ones 0, digit)

-- a vector, or none
pub scaled : (P : ℕ → Type 0) (b v : ℕ) → b < 2 → P 0 → P v → P (b * v)
scaled P b v h p q =
    elim (two_digits b h) [
      | inl e ↦ subst P (sym (ap (λ (n : ℕ). n * v) e ∙ zero-mul v)) p
      | inr e ↦ subst P (sym (ap (λ (n : ℕ). n * v) e ∙ one-mul v)) q
    ]

pub dot-scaled : (b v x : ℕ) → b < 2 → dot (b * v) x ≡ b * dot v x
dot-scaled b v x h =
    elim (two_digits b h) [
      | inl e ↦ subst (λ (n : ℕ). dot (n * v) x ≡ n * dot v x) (sym e) (ap (λ (n : ℕ). dot n x) (zero-mul v) ∙ dot-zero_left x ∙ sym (zero-mul (dot v x)))
      | inr e ↦ subst (λ (n : ℕ). dot (n * v) x ≡ n * dot v x) (sym e) (ap (λ (n : ℕ). dot n x) (one-mul v) ∙ sym (one-mul (dot v x)))
    ]

pub dot-place : (r b i : ℕ) → b < 2 → dot r (b * 2 ^ i) ≡ b * bit_at r i
dot-place r b i h =
    dot_comm r (b * 2 ^ i) ∙ dot-scaled b (2 ^ i) r h ∙ ap (λ (n : ℕ). b * n) (dot_comm (2 ^ i) r ∙ dot-unit r i)

-- ---- a number by its bits

pub number-below : (bit : ℕ → ℕ) (n : ℕ) → ((i : ℕ) → i < n → bit i < 2) → number bit n < 2 ^ n
unfolding number
number-below bit zero h = lit< tt
number-below bit (suc n) h =
    let low = number-below bit n (λ i p. h i (omega arith)) in
    let top = h n (omega arith) in
    subst (λ (x : ℕ). bit n * 2 ^ n + number bit n < x) (sym (pow-suc 2 n)) (mul-add-lt (bit n) (2 ^ n) (number bit n) 2 top low)

pub bit_at-number : (bit : ℕ → ℕ) (n i : ℕ) → ((j : ℕ) → j < n → bit j < 2) → i < n → bit_at (number bit n) i ≡ bit i
unfolding number
bit_at-number bit zero i h p = absurd (omega arith)
bit_at-number bit (suc n) i h p =
    let low = number-below bit n (λ j q. h j (omega arith)) in
    let top = h n (omega arith) in
    let last : bit_at (bit n * 2 ^ n + number bit n) n ≡ bit n =
    bit_at_cat_high (bit n) n (number bit n) n low (omega arith)
    ∙ ap (bit_at (bit n)) (sub_self n) ∙ bit_at_lowest (bit n) ∙ mod-eq_of_lt top in
    elim (cases_lt i n) [
      | inl q ↦ bit_at_cat_low (bit n) n (number bit n) i q ∙ bit_at-number bit n i (λ j q. h j (omega arith)) q
      | inr q ↦ let e : n ≡ i = omega arith in subst (λ (j : ℕ). bit_at (bit n * 2 ^ n + number bit n) j ≡ bit j) e last
    ]

pub number_same : (bit other : ℕ → ℕ) (n : ℕ) → ((i : ℕ) → i < n → bit i ≡ other i) → number bit n ≡ number other n
unfolding number
number_same bit other zero h = refl
number_same bit other (suc n) h =
    ap (λ (d : ℕ). d * 2 ^ n + number bit n) (h n (omega arith))
    ∙ ap (λ (x : ℕ). other n * 2 ^ n + x) (number_same bit other n (λ i p. h i (omega arith)))

pub number-bits : (x n : ℕ) → x < 2 ^ n → number (bit_at x) n ≡ x
number-bits x n h =
    same_from_bits_below n (number (bit_at x) n) x (number-below (bit_at x) n (λ i _. bit_at-lt x i)) h
    (λ i p. bit_at-number (bit_at x) n i (λ j _. bit_at-lt x j) p)

pub number-zero : (bit : ℕ → ℕ) (n : ℕ) → ((i : ℕ) → i < n → bit i ≡ 0) → number bit n ≡ 0
unfolding number
number-zero bit zero h = refl
number-zero bit (suc n) h = omega (arith, number-zero bit n (λ i p. h i (omega arith)), ap (λ (d : ℕ). d * 2 ^ n) (h n (omega arith)))

-- ---- combinations

pub combination-below : (vector : ℕ → ℕ) (n set w : ℕ) → ((i : ℕ) → i < n → vector i < 2 ^ w) → combination vector n set < 2 ^ w
unfolding combination
combination-below vector zero set w h = pow_pos w
combination-below vector (suc n) set w h =
    xor_lt w (bit_at set n * vector n) (combination vector n set)
    (scaled (λ (x : ℕ). x < 2 ^ w) (bit_at set n) (vector n) (bit_at-lt set n) (pow_pos w) (h n (omega arith)))
    (combination-below vector n set w (λ i p. h i (omega arith)))

-- what a combination names of x is what its set names of the answers of the vectors
pub dot-combination : (vector : ℕ → ℕ) (n set x : ℕ) → dot (combination vector n set) x ≡ dot set (number (λ i. dot (vector i) x) n)
unfolding combination number
dot-combination vector zero set x = dot-zero_left x ∙ sym (dot-zero set)
dot-combination vector (suc n) set x =
    let d = dot (vector n) x in
    let low = number (λ i. dot (vector i) x) n in
    let left = dot_xor_left (bit_at set n * vector n) (combination vector n set) x in
    let first = dot-scaled (bit_at set n) (vector n) x (bit_at-lt set n) in
    let rest = dot-combination vector n set x in
    let fits = number-below (λ i. dot (vector i) x) n (λ i _. dot_below (vector i) x) in
    let apart : d * 2 ^ n + low ≡ bit_xor (d * 2 ^ n) low = sym (xor_shifted d n low fits) in
    let right = ap (dot set) apart ∙ dot_xor set (d * 2 ^ n) low in
    let second = dot-place set d n (dot_below (vector n) x) in
    left ∙ ap₂ (λ (a b : ℕ). (a + b) % 2) (first ∙ mul_comm (bit_at set n) d ∙ sym second) rest ∙ sym right
