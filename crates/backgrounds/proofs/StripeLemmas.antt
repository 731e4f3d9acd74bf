-- The logarithmic set, word by word.
use Rattle.std.proofs.Common.{◌⊎◌, ◌≡◌, ◌≢◌, ℕ, zero, suc, ◌+◌, ◌-◌, ◌*◌, ◌/◌, ◌%◌, ◌^◌, ◌<◌, ◌≤◌, List, [], ◌∷◌, ◌++◌, length, slice_index, refl, sym, ◌∙◌, ap, subst, arith, add-one, bit_and, bit_or, bit_xor, inl, inr, lit<, lit≤}
use Rattle.std.proofs.Math.Pow.{pow-lt}
use Rattle.std.proofs.Math.Nat.{zero-mul, one-mul, mod-eq_of_lt, sub_self, pow-suc}
use Rattle.std.proofs.lemmas.Bool.{cases_lt}
use Rattle.std.proofs.lemmas.Grind.{get_or_default_zero}
use Rattle.std.proofs.lemmas.List.{get_or_append_left, get_or_push, length-append}
use Rattle.std.proofs.lemmas.Nat.{mul-add-lt}
use Rattle.std.proofs.lemmas.Nat.Bits.{same_from_bits_below, bit_at-lt, bit_at_cat_low, bit_at_cat_high, bit_at_lowest, shr_and_one}
use Rattle.std.specs.List.{Any}
use Rattle.std.specs.Int.{bit_at}
use Rattle.std.specs.Int.Bits.{or_shifted_r, xor_add_and, and_mask, and_comm}
use Rattle.bist_bits.specs.Width.{IsWidthOf}
use Rattle.backgrounds.specs.Backgrounds.{Differ, IsLogarithm, IsStripe, IsLogSet}

-- ---- the complement

pub complement : (bits b : ℕ) → b < 2 ^ bits → bit_xor (2 ^ bits - 1) b ≡ 2 ^ bits - 1 - b
complement bits b h =
    let sum = xor_add_and (2 ^ bits - 1) b in
    let common : bit_and (2 ^ bits - 1) b ≡ b = and_comm (2 ^ bits - 1) b ∙ and_mask b bits ∙ mod-eq_of_lt h in
    let twice = ap (λ (x : ℕ). x * 2) common in
    omega arith

-- ---- the logarithm

pub logarithm_of_one : IsLogarithm 1 0
logarithm_of_one = record { enough = lit≤ tt; least = λ m h. omega arith }

pub logarithm_by_width : (bits w : ℕ) → 1 < bits → IsWidthOf (bits - 1) w → IsLogarithm bits w
logarithm_by_width bits w h width =
    record {
      enough = (let holds : bits - 1 < 2 ^ w = width.holds in omega arith);
      least = λ m p.
          elim (cases_lt 0 m) [
            | inl positive ↦ width.least m positive (omega arith)
            | inr none ↦ let e : m ≡ 0 = omega arith in let one : bits ≤ 2 ^ 0 = subst (λ (x : ℕ). bits ≤ 2 ^ x) e p in absurd (omega arith)
          ];
    }

two_digits : (b : ℕ) → b < 2 → (b ≡ 0) ⊎ (b ≡ 1)
two_digits b h = elim (cases_lt b 1) [ inl l ↦ inl (omega arith) | inr l ↦ inr (omega arith) ]

-- ---- one word

pub stripe_begun : (k : ℕ) → IsStripe 0 k 0
stripe_begun k = record { fits = lit< tt; bit = λ j h. absurd (omega arith) }

pub stripe_more : (j k word : ℕ) → j < 64 → IsStripe j k word
    → IsStripe (j + 1) k (bit_or word (bit_and (j / 2 ^ k) 1 * 2 ^ j % 18446744073709551616))
stripe_more j k word h s =
    let digit = bit_at j k in
    let small : digit < 2 = bit_at-lt j k in
    let is_digit : bit_and (j / 2 ^ k) 1 ≡ digit = shr_and_one j k in
    let place : digit * 2 ^ j < 18446744073709551616 =
    elim (two_digits digit small) [
      | inl e ↦ let z : digit * 2 ^ j ≡ 0 = ap (λ (d : ℕ). d * 2 ^ j) e ∙ zero-mul (2 ^ j) in omega arith
      | inr e ↦
          let o : digit * 2 ^ j ≡ 2 ^ j = ap (λ (d : ℕ). d * 2 ^ j) e ∙ one-mul (2 ^ j) in
          let top : 2 ^ j < 2 ^ 64 = pow-lt h in omega arith
    ] in
    let is : bit_or word (bit_and (j / 2 ^ k) 1 * 2 ^ j % 18446744073709551616) ≡ digit * 2 ^ j + word =
    ap (λ (d : ℕ). bit_or word (d * 2 ^ j % 18446744073709551616)) is_digit ∙ ap (bit_or word) (mod-eq_of_lt place)
    ∙ or_shifted_r digit j word s.fits in
    subst (λ (x : ℕ). IsStripe (j + 1) k x) (sym is)
    (record {
      fits = subst (λ (x : ℕ). digit * 2 ^ j + word < x) (sym (pow-suc 2 j) ∙ ap (λ (x : ℕ). 2 ^ x) (sym (add-one j)))
          (mul-add-lt digit (2 ^ j) word 2 small s.fits);
      bit = λ i q.
          elim (cases_lt i j) [
            | inl below ↦ bit_at_cat_low digit j word i below ∙ s.bit i below
            | inr above ↦
                let e : j ≡ i = omega arith in
                subst (λ (x : ℕ). bit_at (digit * 2 ^ j + word) x ≡ bit_at x k) e
                (bit_at_cat_high digit j word j s.fits (omega arith) ∙ ap (bit_at digit) (sub_self j) ∙ bit_at_lowest digit ∙ mod-eq_of_lt small)
          ];
    })

-- ---- two positions

equal_or_not : (x y : ℕ) → (x ≡ y) ⊎ (x ≢ y)
equal_or_not x y =
    elim (cases_lt x y) [
      | inl p ↦ inr (omega arith)
      | inr p ↦ elim (cases_lt y x) [ inl q ↦ inr (omega arith) | inr q ↦ inl (omega arith) ]
    ]

some_bit_differs : (n a b : ℕ) → ((k : ℕ) × (k < n) × (bit_at a k ≢ bit_at b k)) ⊎ ((k : ℕ) → k < n → bit_at a k ≡ bit_at b k)
some_bit_differs zero a b = inr (λ k h. absurd (omega arith))
some_bit_differs (suc n) a b =
    elim (some_bit_differs n a b) [
      | inl d ↦ inl (d.0, omega arith, d.2)
      | inr same ↦ elim (equal_or_not (bit_at a n) (bit_at b n)) [
        | inl e ↦ inr (λ k h. elim (cases_lt k n) [
          | inl q ↦ same k q
          | inr q ↦ let z : n ≡ k = omega arith in subst (λ (x : ℕ). bit_at a x ≡ bit_at b x) z e
        ])
        | inr d ↦ inl (n, omega arith, d)
      ]
    ]

pub log_set_separates : (bits : ℕ) (set : List ℕ) (i j : ℕ) → IsLogSet bits set → i < bits → j < bits → i ≢ j
    → (k : ℕ) × (k < length set) × Differ i j (slice_index set k)
log_set_separates bits set i j s hi hj n =
    let enough = s.count.enough in
    elim (some_bit_differs (length set - 1) i j) [
      | inl d ↦
          let word = slice_index set (d.0 + 1) in
          let stripe = s.stripes d.0 (omega (arith, d.1)) in
          (d.0 + 1, omega (arith, d.1), λ e. d.2 (sym (stripe.bit i hi) ∙ e ∙ stripe.bit j hj))
      | inr same ↦ absurd (n (same_from_bits_below (length set - 1) i j (omega arith) (omega arith) same))
    ]

pub log_set_separates_any : (bits : ℕ) (set : List ℕ) (i j : ℕ) → IsLogSet bits set → i < bits → j < bits → i ≢ j → Any (Differ i j) set
log_set_separates_any bits set i j s hi hj n =
    let found = log_set_separates bits set i j s hi hj n in
    (found.0, slice_index set found.0, found.1, get_or_default_zero set found.0 (slice_index set found.0) found.1, found.2)

-- ---- the set, word by word

-- the words for the first k bits of a position
pub record HasStripes (bits k : ℕ) (set : List ℕ) : Type 0 where
  pub count : length set ≡ k + 1
  pub solid : slice_index set 0 ≡ 0
  pub stripes : (i : ℕ) → i < k → IsStripe bits i (slice_index set (i + 1))

pub stripes_begun : (bits : ℕ) → HasStripes bits 0 (0 ∷ [])
stripes_begun bits = record { count = refl; solid = refl; stripes = λ i h. absurd (omega arith) }

pub stripes_more : (bits k word : ℕ) (set : List ℕ) → HasStripes bits k set → IsStripe bits k word → HasStripes bits (k + 1) (set ++ word ∷ [])
stripes_more bits k word set s w =
    let count = s.count in
    record {
      count = omega (arith, length-append set (word ∷ []));
      solid = get_or_append_left set (word ∷ []) 0 0 (omega arith) ∙ s.solid;
      stripes = λ i h.
          elim (cases_lt i k) [
            | inl below ↦ subst (λ (x : ℕ). IsStripe bits i x) (sym (get_or_append_left set (word ∷ []) 0 (i + 1) (omega arith))) (s.stripes i below)
            | inr above ↦
                let e : k ≡ i = omega arith in
                subst (λ (j : ℕ). IsStripe bits j (slice_index (set ++ word ∷ []) (j + 1))) e
                (subst (λ (x : ℕ). IsStripe bits k x) (sym (get_or_push set word 0 (k + 1) count)) w)
          ];
    }

pub stripes_are_log_set : (bits k : ℕ) (set : List ℕ) → HasStripes bits k set → IsLogarithm bits k → IsLogSet bits set
stripes_are_log_set bits k set s log =
    let count = s.count in
    let e : k ≡ length set - 1 = omega arith in
    record {
      some = omega arith;
      solid = s.solid;
      count = subst (λ (n : ℕ). IsLogarithm bits n) e log;
      stripes = λ i h. s.stripes i (omega arith);
    }

-- no word of at most 64 bits needs more than six
pub width_of_small : (n w : ℕ) → IsWidthOf n w → n < 64 → w ≤ 6
width_of_small n w width h = width.least 6 (lit≤ tt) h
