-- A matrix has one least dependence.
use Rattle.std.proofs.Common.{◌≡◌, ℕ, zero, suc, ◌+◌, ◌*◌, ◌%◌, ◌^◌, ◌<◌, ◌≤◌, refl, sym, ◌∙◌, ap, subst, arith, bit_xor, inl, inr}
use Rattle.std.proofs.Math.Path.{ap₂}
use Rattle.std.proofs.Math.Nat.{zero-mul, one-mul}
use Rattle.std.proofs.lemmas.Bool.{cases_lt}
use Rattle.std.proofs.lemmas.Nat.Bits.{same_from_bits_below, bit_at-lt, bit_at_xor}
use Rattle.std.specs.Int.{bit_at}
use Rattle.std.specs.Int.Bits.{xor_self, xor_assoc, xor_comm, xor_zero_l, xor_zero_r}
use Rattle.scrambler.specs.Linear.{number, combination}
use Rattle.scrambler.specs.Scrambling.{Scrambling, IsLeastDependence, DependsOn, row}
use Rattle.scrambler.proofs.LinearLemmas.{two_digits, number-below, bit_at-number}
use Rattle.scrambler.proofs.ScramblingLemmas.{combination_same}

both_least : (a b : ℕ) → a ≤ b → b ≤ a → a ≡ b
both_least a b p q = omega arith

-- ---- combinations of rows

xor_moved : (a b c d : ℕ) → bit_xor (bit_xor a b) (bit_xor c d) ≡ bit_xor (bit_xor a c) (bit_xor b d)
xor_moved a b c d =
    xor_assoc a b (bit_xor c d)
    ∙ ap (bit_xor a) (sym (xor_assoc b c d) ∙ ap (λ (x : ℕ). bit_xor x d) (xor_comm b c) ∙ xor_assoc c b d)
    ∙ sym (xor_assoc a c (bit_xor b d))

xor_cancelled : (a b c : ℕ) → bit_xor a b ≡ bit_xor a c → b ≡ c
xor_cancelled a b c e = back b ∙ ap (bit_xor a) e ∙ sym (back c)
  where
    back : (x : ℕ) → x ≡ bit_xor a (bit_xor a x)
    back x = sym (xor_zero_l x) ∙ ap (λ (z : ℕ). bit_xor z x) (sym (xor_self a)) ∙ xor_assoc a a x

-- a vector that is added to one of two equal sums is their difference
xor_difference : (v a b : ℕ) → bit_xor v a ≡ b → bit_xor a b ≡ v
xor_difference v a b e =
    ap (bit_xor a) (sym e ∙ xor_comm v a) ∙ sym (xor_assoc a a v) ∙ ap (λ (z : ℕ). bit_xor z v) (xor_self a) ∙ xor_zero_l v

-- a vector taken by two digits, and by their sum
taken_twice : (d e v : ℕ) → d < 2 → e < 2 → (d + e) % 2 * v ≡ bit_xor (d * v) (e * v)
taken_twice d e v h k =
    elim (two_digits d h) [
      | inl z ↦ elim (two_digits e k) [
        | inl y ↦ cases d e z y 0 0 0 refl (zero-mul v) (zero-mul v) (zero-mul v) (xor_zero_r 0)
        | inr y ↦ cases d e z y 0 v v refl (zero-mul v) (one-mul v) (one-mul v) (xor_zero_l v)
      ]
      | inr z ↦ elim (two_digits e k) [
        | inl y ↦ cases d e z y v 0 v refl (one-mul v) (zero-mul v) (one-mul v) (xor_zero_r v)
        | inr y ↦ cases d e z y v v 0 refl (one-mul v) (one-mul v) (zero-mul v) (xor_self v)
      ]
    ]
  where
    cases : (d e : ℕ) {m n s : ℕ} → d ≡ m → e ≡ n → (x y z : ℕ) → (m + n) % 2 ≡ s → m * v ≡ x → n * v ≡ y → s * v ≡ z → bit_xor x y ≡ z
        → (d + e) % 2 * v ≡ bit_xor (d * v) (e * v)
    cases d e a b x y z f g h i j =
        ap₂ (λ (p q : ℕ). (p + q) % 2 * v) a b ∙ ap (λ (p : ℕ). p * v) f ∙ i ∙ sym j ∙ sym (ap₂ bit_xor (ap (λ (p : ℕ). p * v) a ∙ g) (ap (λ (p : ℕ). p * v) b ∙ h))

-- the sum of two sets takes the sum of what they take
combination_xor : (vector : ℕ → ℕ) (n a b : ℕ) → combination vector n (bit_xor a b) ≡ bit_xor (combination vector n a) (combination vector n b)
unfolding combination
combination_xor vector zero a b = sym (xor_zero_l 0)
combination_xor vector (suc n) a b =
    ap₂ bit_xor
    (ap (λ (d : ℕ). d * vector n) (bit_at_xor a b n) ∙ taken_twice (bit_at a n) (bit_at b n) (vector n) (bit_at-lt a n) (bit_at-lt b n))
    (combination_xor vector n a b)
    ∙ xor_moved (bit_at a n * vector n) (bit_at b n * vector n) (combination vector n a) (combination vector n b)

-- ---- the least dependence

-- no vector before n is a combination of those before it
abbrev pub AreFree : (ℕ → ℕ) → ℕ → Type 0
AreFree vector n = (j set : ℕ) → j < n → set < 2 ^ j → combination vector j set ≡ vector j → ⊥

-- a vector that is taken by one of two sets of equal sums is a combination of those before it
taken_once : (vector : ℕ → ℕ) (n a b : ℕ) → AreFree vector (suc n) → bit_at a n ≡ 1 → bit_at b n ≡ 0
    → bit_xor (bit_at a n * vector n) (combination vector n a) ≡ bit_xor (bit_at b n * vector n) (combination vector n b) → ⊥
taken_once vector n a b free one none e =
    let set = number (bit_at (bit_xor a b)) n in
    let digits : (i : ℕ) → i < n → bit_at (bit_xor a b) i < 2 = λ i _. bit_at-lt (bit_xor a b) i in
    let with : bit_at a n * vector n ≡ vector n = ap (λ (d : ℕ). d * vector n) one ∙ one-mul (vector n) in
    let without : bit_at b n * vector n ≡ 0 = ap (λ (d : ℕ). d * vector n) none ∙ zero-mul (vector n) in
    let sum : bit_xor (vector n) (combination vector n a) ≡ combination vector n b =
    ap (λ (x : ℕ). bit_xor x (combination vector n a)) (sym with) ∙ e ∙ ap (λ (x : ℕ). bit_xor x (combination vector n b)) without
    ∙ xor_zero_l (combination vector n b) in
    free n set (omega arith) (number-below (bit_at (bit_xor a b)) n digits)
    (combination_same vector n set (bit_xor a b) (λ i h. bit_at-number (bit_at (bit_xor a b)) n i digits h)
    ∙ combination_xor vector n a b
    ∙ xor_difference (vector n) (combination vector n a) (combination vector n b) sum)

-- two sets of equal sums are one set
same_sets : (vector : ℕ → ℕ) (n a b : ℕ) → AreFree vector n → combination vector n a ≡ combination vector n b → (i : ℕ) → i < n → bit_at a i ≡ bit_at b i
unfolding combination
same_sets vector zero a b free e i h = absurd (omega arith)
same_sets vector (suc n) a b free e i h =
    elim (cases_lt i n) [
      | inl p ↦ same_sets vector n a b (λ j set q. free j set (omega arith)) below i p
      | inr p ↦ let k : n ≡ i = omega arith in subst (λ (x : ℕ). bit_at a x ≡ bit_at b x) k top
    ]
  where
    top : bit_at a n ≡ bit_at b n
    top = elim (two_digits (bit_at a n) (bit_at-lt a n)) [
      | inl z ↦ elim (two_digits (bit_at b n) (bit_at-lt b n)) [
        | inl y ↦ z ∙ sym y
        | inr y ↦ absurd (taken_once vector n b a free y z (sym e))
      ]
      | inr z ↦ elim (two_digits (bit_at b n) (bit_at-lt b n)) [
        | inl y ↦ absurd (taken_once vector n a b free z y e)
        | inr y ↦ z ∙ sym y
      ]
    ]

    below : combination vector n a ≡ combination vector n b
    below =
        xor_cancelled (bit_at a n * vector n) (combination vector n a) (combination vector n b)
        (e ∙ ap (λ (d : ℕ). bit_xor (d * vector n) (combination vector n b)) (sym top))

not_before : (m : Scrambling) (a b : ℕ) (p : IsLeastDependence m a) (q : IsLeastDependence m b) → p.last ≤ q.last
not_before m a b p q =
    elim (cases_lt q.last p.last) [ inl l ↦ absurd (p.least q.last q.others l q.depends) | inr l ↦ l ]

pub dependence_one : (m : Scrambling) (a b : ℕ) → IsLeastDependence m a → IsLeastDependence m b → a ≡ b
dependence_one m a b p q =
    let last : q.last ≡ p.last = both_least q.last p.last (not_before m b a q p) (not_before m a b p q) in
    let d : DependsOn m p.last q.others = subst (λ (i : ℕ). DependsOn m i q.others) last q.depends in
    let others : p.others ≡ q.others =
    same_from_bits_below p.last p.others q.others p.depends.below d.below
    (same_sets (row m) p.last p.others q.others (λ j set h f e. p.least j set h (record { below = f; sum = e })) (p.depends.sum ∙ sym d.sum)) in
    p.together ∙ ap₂ (λ (i set : ℕ). 2 ^ i + set) (sym last) others ∙ sym q.together
