-- The rows of a scrambling give the logical address.
use Rattle.std.proofs.Common.{◌≡◌, ℕ, zero, suc, ◌+◌, ◌*◌, ◌%◌, ◌^◌, ◌<◌, ◌==◌, Bool, true, false, cond, inl, inr, refl, sym, ap, ap₂, ◌∙◌, arith, zero-add}
use Rattle.std.specs.Prelude.{bit_xor, bit_and, count_ones}
use Rattle.std.specs.Int.{bit_at}
use Rattle.std.proofs.lemmas.Nat.{and_comm}
use Rattle.std.proofs.Math.Nat.{mod-eq_of_lt, mul_assoc}
use Rattle.std.proofs.lemmas.Nat.Bits.{bit_at-lt, bit_at-zero}
use Rattle.verilog_tree.specs.Meaning.{bit}
use Rattle.scrambler.specs.Linear.{dot, number}
use Rattle.scrambler.specs.Scrambling.{Scrambling, row, logical_bit, logical}
use Rattle.scrambler.proofs.LinearLemmas.{dot_below, dot_comm, dot-unit, two_digits, number_same, number-bits}
use Rattle.rtl_layout.proofs.Choice.{double}
use Rattle.rtl_layout.specs.Plan.{Plan}
use Rattle.rtl_layout.specs.Control.{address_bit, address_of}
use Rattle.rtl_layout.specs.Control as C
use Rattle.rtl_gen.specs.inner.Planned.{row_of, rows_from}

-- ---- numbers from their lowest bit up

number_low : (f : ℕ → ℕ) (n : ℕ) → number f (suc n) ≡ number (λ j. f (suc j)) n * 2 + f 0
unfolding number
number_low f zero = let t : f 0 * 2 ^ 0 + 0 ≡ 0 * 2 + f 0 = omega arith in t
number_low f (suc n) =
    let two : f (suc n) * 2 ^ suc n ≡ f (suc n) * 2 ^ n * 2 = ap (λ t. f (suc n) * t) (twice n) ∙ sym (mul_assoc (f (suc n)) (2 ^ n) 2) in
    let rest = number_low f n in
    omega arith
  where
    twice : (n : ℕ) → 2 ^ suc n ≡ 2 ^ n * 2
    twice n = let d = double n in omega arith

number_none : (f : ℕ → ℕ) → number f 0 ≡ 0
unfolding number
number_none f = refl

-- ---- bits of the address

xor_bits : (a b : ℕ) → a < 2 → b < 2 → bit_xor a (bit (b == 1)) ≡ (b + a) % 2
xor_bits a b h k =
    elim (two_digits a h) [
      | inl p ↦ elim (two_digits b k) [
        | inl q ↦ ap₂ (λ x y. bit_xor x (bit (y == 1))) p q ∙ sym (ap₂ (λ x y. (y + x) % 2) p q)
        | inr q ↦ ap₂ (λ x y. bit_xor x (bit (y == 1))) p q ∙ sym (ap₂ (λ x y. (y + x) % 2) p q)
      ]
      | inr p ↦ elim (two_digits b k) [
        | inl q ↦ ap₂ (λ x y. bit_xor x (bit (y == 1))) p q ∙ sym (ap₂ (λ x y. (y + x) % 2) p q)
        | inr q ↦ ap₂ (λ x y. bit_xor x (bit (y == 1))) p q ∙ sym (ap₂ (λ x y. (y + x) % 2) p q)
      ]
    ]

named : (r k : ℕ) → count_ones (bit_and k r) % 2 ≡ dot r k
unfolding dot
named r k = ap (λ n. count_ones n % 2) (and_comm k r)

bit_is : (m : Scrambling) (k i : ℕ) → address_bit (row_of m i) k ≡ logical_bit m k i
bit_is m k i =
    ap (λ a. bit_xor a (bit (bit_at m.constant i == 1))) (named (row m i) k)
    ∙ xor_bits (dot (row m i) k) (bit_at m.constant i) (dot_below (row m i) k) (bit_at-lt m.constant i)

addressed : (m : Scrambling) (k i n : ℕ) → address_of (rows_from m i n) k ≡ number (λ j. logical_bit m k (i + j)) n
addressed m k i zero = sym (number_none (λ j. logical_bit m k (i + j)))
addressed m k i (suc n) =
    let here : i ≡ i + 0 = omega arith in
    ap₂ (λ a b. a * 2 + b)
    (addressed m k (i + 1) n ∙ number_same (λ j. logical_bit m k (i + 1 + j)) (λ j. logical_bit m k (i + suc j)) n (λ j _. let on : i + 1 + j ≡ i + suc j = omega arith in ap (logical_bit m k) on))
    (bit_is m k i ∙ ap (logical_bit m k) here)
    ∙ sym (number_low (λ j. logical_bit m k (i + j)) n)

-- rows that name their own bits alone
straight_is : (m : Scrambling) (k : ℕ) → m.constant ≡ 0 → ((i : ℕ) → i < m.width → row m i ≡ 2 ^ i) → k < 2 ^ m.width → logical m k ≡ k
straight_is m k none units h =
    number_same (logical_bit m k) (bit_at k) m.width (λ i q.
    let named_bit : dot (row m i) k ≡ bit_at k i = ap (λ r. dot r k) (units i q) ∙ dot_comm (2 ^ i) k ∙ dot-unit k i in
    let nothing : bit_at m.constant i ≡ 0 = ap (λ c. bit_at c i) none ∙ bit_at-zero i in
    let small = bit_at-lt k i in
    ap₂ (λ a b. (a + b) % 2) nothing named_bit ∙ ap (λ x. x % 2) (zero-add (bit_at k i)) ∙ mod-eq_of_lt small)
    ∙ number-bits k m.width h

pub addresses_are : (p : Plan) (m : Scrambling) → (p.straight ≡ true → (m.constant ≡ 0) × ((i : ℕ) → i < m.width → row m i ≡ 2 ^ i)) → p.rows ≡ rows_from m 0 m.width
    → (k : ℕ) → k < 2 ^ m.width → C.logical p k ≡ logical m k
addresses_are p m units rows k h = by p.straight refl
  where
    by : (t : Bool) → p.straight ≡ t → cond p.straight k (address_of p.rows k) ≡ logical m k
    by true e = let u = units e in ap (λ t. cond t k (address_of p.rows k)) e ∙ sym (straight_is m k u.0 u.1 h)
    by false e =
        ap (λ t. cond t k (address_of p.rows k)) e
        ∙ ap (λ l. address_of l k) rows
        ∙ addressed m k 0 m.width
        ∙ number_same (λ j. logical_bit m k (0 + j)) (logical_bit m k) m.width (λ j _. let on : 0 + j ≡ j = omega arith in ap (logical_bit m k) on)
